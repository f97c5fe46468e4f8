-- The stream of at most 65536 rows is bytes.
use Rattle.std.proofs.Common.{ℕ, zero, suc, ◌+◌, ◌*◌, ◌%◌, ◌<◌, ◌≤◌, [], ◌++◌, lit<, arith, rules}
use Rattle.std.specs.List.{flat_map, range_with_len}
use Rattle.xls_bytes.specs.Numbers.{le16}
use Rattle.xls_stream.specs.Stream.{record_bytes}
use Rattle.xls_stream.specs.Walks.{IsBytes}
use Rattle.xls_stream.specs.declared.types.TheConstants as types
use Rattle.xls_layouts.specs.LaidStrings.{le32}
use Rattle.xls_layouts.specs.Canonical.{AreBytes}
use Rattle.xls_layouts.proofs.CanonicalByteLemmas.{each_byte, both_bytes, bytes_le16, bytes_le32, bytes_record}
use Rattle.xls_command.specs.Sample.{globals_body, sample_sheet_body, table_body, part_body, cell_body, int_body, word_body, sample_globals, sample_row, sample_rows, sample_part, sample_stream}

-- the body of a cell
bytes_cell : (row column number : ℕ) → row < 65536 → column < 65536 → number < 4294967296
    → AreBytes (cell_body row column number)
bytes_cell row column number a b c =
    both_bytes (le16 row) (le16 column ++ (le16 0 ++ le32 number)) (bytes_le16 row a)
    (both_bytes (le16 column) (le16 0 ++ le32 number) (bytes_le16 column b)
    (both_bytes (le16 0) (le32 number) (bytes_le16 0 (lit< tt)) (bytes_le32 number c)))

-- a row
bytes_row : (i : ℕ) → i < 65536 → AreBytes (sample_row i)
bytes_row i h =
    let number : 4 * i + 2 < 4294967296 = omega arith in
    let index : i % 3 < 4294967296 = omega arith in
    both_bytes (record_bytes types.RK (int_body i)) (record_bytes types.LABEL_SST (word_body i))
    (bytes_record types.RK (int_body i) (lit< tt) (lit< tt) (bytes_cell i 0 (4 * i + 2) h (lit< tt) number))
    (bytes_record types.LABEL_SST (word_body i) (lit< tt) (lit< tt) (bytes_cell i 1 (i % 3) h (lit< tt) index))

-- rows from one on
bytes_rows : (a n : ℕ) → a + n ≤ 65536 → AreBytes (flat_map sample_row (range_with_len a n))
bytes_rows a zero h = tt
bytes_rows a (suc n) h =
    both_bytes (sample_row a) (flat_map sample_row (range_with_len (a + 1) n)) (bytes_row a (omega arith)) (bytes_rows (a + 1) n (omega arith))

-- the globals
bytes_globals : AreBytes sample_globals
bytes_globals =
    both_bytes (record_bytes types.BOF globals_body) (record_bytes types.BOUND_SHEET_8 sample_sheet_body ++ (record_bytes types.SST table_body ++ record_bytes types.EOF []))
    (bytes_record types.BOF globals_body (lit< tt) (lit< tt) (lit< tt, (lit< tt, (lit< tt, (lit< tt, tt)))))
    (both_bytes (record_bytes types.BOUND_SHEET_8 sample_sheet_body) (record_bytes types.SST table_body ++ record_bytes types.EOF [])
    (bytes_record types.BOUND_SHEET_8 sample_sheet_body (lit< tt) (lit< tt) (search rules))
    (both_bytes (record_bytes types.SST table_body) (record_bytes types.EOF [])
    (bytes_record types.SST table_body (lit< tt) (lit< tt) (search rules))
    (bytes_record types.EOF [] (lit< tt) (lit< tt) tt)))

-- the stream
pub are_bytes : (n : ℕ) → n ≤ 65536 → IsBytes (sample_stream n)
unfolding sample_stream
are_bytes n h = each_byte (sample_stream n) (both_bytes sample_globals (sample_part n) bytes_globals
    (both_bytes (record_bytes types.BOF part_body) (sample_rows n ++ record_bytes types.EOF []) (bytes_record types.BOF part_body (lit< tt) (lit< tt) (lit< tt, (lit< tt, (lit< tt, (lit< tt, tt)))))
    (both_bytes (sample_rows n) (record_bytes types.EOF []) (bytes_rows 0 n (omega arith)) (bytes_record types.EOF [] (lit< tt) (lit< tt) tt))))
