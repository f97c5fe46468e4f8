-- What the records of a row give.
use Rattle.std.proofs.Common.{◌≡◌, ℕ, zero, suc, ◌+◌, ◌*◌, ◌/◌, ◌%◌, ◌<◌, true, false, [], ◌∷◌, refl, arith, Some, None, Ok}
use Rattle.std.specs.Prelude.{pos, slice_get, nat_lt, codes, ◌==◌, if◌then◌else◌}
use Rattle.xls_bytes.specs.Numbers.{le, le16}
use Rattle.xls_stream.specs.Listing.{Kept}
use Rattle.xls_stream.specs.declared.types.TheConstants as types
use Rattle.xls_data.specs.Content.{int, text}
use Rattle.xls_biff.specs.Records.Rk.{rk_content}
use Rattle.xls_biff.specs.SheetTable.{CellContext, cells_record, shared_record}
use Rattle.xls_meaning.specs.SheetTable.{kept_line}
use Rattle.xls_command.specs.Sample.{le32, sample_word, sample_strings, int_body, word_body}

-- a number of 16 bits from its bytes
number_16 : (n : ℕ) → le (le16 n) ≡ n
number_16 n = omega arith

-- a number of 32 bits from its bytes
number_32 : (n : ℕ) → le (le32 n) ≡ n
number_32 n = omega arith

-- the RK number of a row is a whole number
rk_int : (rk n : ℕ) → rk / 2 % 2 ≡ 1 → rk % 2 ≡ 0 → rk / 4 ≡ n → nat_lt n 536870912 ≡ true
    → rk_content None rk false ≡ int (pos n)
unfolding rk_content
rk_int rk n whole plain value small = rw (whole, plain, value, small) refl

-- a smaller number passes the test
below_test : (n m : ℕ) → n < m → nat_lt n m ≡ true
below_test n m h = grind arith

-- that of a row is the number of the row
rk_row : (i : ℕ) → i < 65536 → rk_content None (4 * i + 2) false ≡ int (pos i)
rk_row i h =
    rk_int (4 * i + 2) i (omega arith) (omega arith) (omega arith) (below_test i 536870912 (omega arith))

-- the record of a row's number
abbrev pub int_kept : ℕ → Kept
int_kept i = record { typ = types.RK; body = int_body i }

-- the record of a row's word
abbrev pub word_kept : ℕ → Kept
word_kept i = record { typ = types.LABEL_SST; body = word_body i }

-- the first record of a row gives its number
pub int_line : (c : CellContext) (i : ℕ) → i < 65536 → c.classes ≡ [] → c.is_1904 ≡ false
    → kept_line c (int_kept i) ≡ Ok (cells_record (((i, 0), int (pos i)) ∷ []))
int_line c i h none epoch =
    let row : i % 256 + 256 * (i / 256 + 0) ≡ i = omega arith in
    let number : le (le32 (4 * i + 2)) ≡ 4 * i + 2 = number_32 (4 * i + 2) in
    let content : rk_content None (4 * i + 2) false ≡ int (pos i) = rk_row i h in
    rw (none, epoch, row, number, content) refl

-- the string of a row's index is its word
word_by : (m : ℕ) → m < 3
    → slice_get sample_strings m ≡ Some (if m == 0 then codes "a" else if m == 1 then codes "bb" else codes "ccc")
word_by zero h = refl
word_by (suc zero) h = refl
word_by (suc (suc zero)) h = refl
word_by (suc (suc (suc m))) h = absurd (omega arith)

-- the index of a row is that of its word
word_at : (i : ℕ) → slice_get sample_strings (i % 3) ≡ Some (sample_word i)
word_at i = word_by (i % 3) (omega arith)

-- the second record of a row gives its word
pub word_line : (c : CellContext) (i : ℕ) → c.strings ≡ sample_strings
    → kept_line c (word_kept i) ≡ Ok (shared_record (Some ((i, 1), text (sample_word i))))
word_line c i e =
    let row : i % 256 + 256 * (i / 256 + 0) ≡ i = omega arith in
    let index : le (le32 (i % 3)) ≡ i % 3 = number_32 (i % 3) in
    let word : slice_get sample_strings (i % 3) ≡ Some (sample_word i) = word_at i in
    rw (e, index, word, row) refl
