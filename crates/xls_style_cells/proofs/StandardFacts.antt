-- Known values, in the bytes of records, so that a wrong rule in the definitions does not check.
use Rattle.std.proofs.Common.{◌≡◌, ℕ, List, [], ◌∷◌, ◌++◌, map, refl, true, false, Some, None}
use Rattle.std.specs.List.{flat_map}
use Rattle.xls_bytes.specs.Numbers.{le16}
use Rattle.xls_record.specs.declared.version.Biff.TheVariants.{Biff5, Biff8}
use Rattle.xls_parts.specs.PartRecords.{Placed}
use Rattle.xls_stream.specs.StringTable.{Mark, marked, units_at, tail_at}
use Rattle.xls_style_cells.specs.declared.types.TheConstants as types
use Rattle.xls_style_cells.specs.declared.runs.Run.{Run}
use Rattle.xls_style_cells.specs.Order.{ascends}
use Rattle.xls_style_cells.specs.Runs.{runs_in, own_list}
use Rattle.xls_style_cells.specs.Tables.{runs_of, string_runs, table_from}
use Rattle.xls_style_cells.specs.Cells.{Cell, no_runs, shared_runs, own_runs, is_cell_type, is_run_type, cells_at, cells_of, source_of}

-- the numbers of the record types
pub known_types : types.MUL_BLANK ∷ types.BLANK ∷ [] ≡ 0xBE ∷ 0x201 ∷ []
known_types = refl

-- a record of this type
abbrev typed : ℕ → List ℕ → Placed
typed typ body = record { offset = 9; typ = typ; body = body }

-- row 3, column 2, XF 15, and ten bytes
abbrev cell_body : List ℕ
cell_body = flat_map le16 (3 ∷ 2 ∷ 15 ∷ []) ++ 1 ∷ 0 ∷ 2 ∷ 0 ∷ []

-- which types are a cell each: Blank, Number, Label, RString, BoolErr, RK, LabelSst, Formula; and not String, MulRk,
-- MulBlank, MergeCells, Dimensions, Row
pub known_cell_types : map is_cell_type (0x201 ∷ 0x203 ∷ 0x204 ∷ 0xD6 ∷ 0x205 ∷ 0x27E ∷ 0xFD ∷ 0x06 ∷ 0x207 ∷ 0xBD ∷ 0xBE ∷ 0xE5 ∷ 0x200 ∷ 0x208 ∷ [])
    ≡ true ∷ true ∷ true ∷ true ∷ true ∷ true ∷ true ∷ true ∷ false ∷ false ∷ false ∷ false ∷ false ∷ false ∷ []
known_cell_types = refl

pub known_run_types : map is_run_type (0xBD ∷ 0xBE ∷ 0x27E ∷ 0x201 ∷ []) ≡ true ∷ true ∷ false ∷ false ∷ []
known_run_types = refl

abbrev plain : List Cell
plain = ((3, 2), (15, no_runs)) ∷ []

pub known_cells : map (λ typ. cells_at Biff8 (typed typ cell_body)) (0x201 ∷ 0x203 ∷ 0x204 ∷ 0x205 ∷ 0x27E ∷ 0x06 ∷ 0x208 ∷ [])
    ≡ plain ∷ plain ∷ plain ∷ plain ∷ plain ∷ plain ∷ [] ∷ []
known_cells = refl

-- a LabelSst of the string 0x20001, and one that ends in its index; a Blank and a Number of five bytes
pub known_shared : cells_at Biff8 (typed 0xFD cell_body) ≡ ((3, 2), (15, shared_runs 0x20001)) ∷ []
known_shared = refl

pub known_short : map (λ r. cells_at Biff8 r) (typed 0xFD (flat_map le16 (3 ∷ 2 ∷ 15 ∷ []) ++ 1 ∷ 0 ∷ 2 ∷ []) ∷ typed 0x201 (3 ∷ 0 ∷ 2 ∷ 0 ∷ 15 ∷ []) ∷ typed 0x203 (3 ∷ 0 ∷ 2 ∷ 0 ∷ 15 ∷ []) ∷ typed 0xBE (3 ∷ 0 ∷ 2 ∷ 0 ∷ 15 ∷ []) ∷ [])
    ≡ plain ∷ [] ∷ [] ∷ [] ∷ []
known_short = refl

-- an RString `ab` with a run, of BIFF5 and of BIFF8, in units of one byte and of two
pub known_own : source_of Biff5 (typed 0xD6 (3 ∷ 0 ∷ 2 ∷ 0 ∷ 15 ∷ 0 ∷ 2 ∷ 0 ∷ 0x61 ∷ 0x62 ∷ 1 ∷ 1 ∷ 5 ∷ []))
    ∷ source_of Biff8 (typed 0xD6 (3 ∷ 0 ∷ 2 ∷ 0 ∷ 15 ∷ 0 ∷ 2 ∷ 0 ∷ 0 ∷ 0x61 ∷ 0x62 ∷ 1 ∷ 0 ∷ 1 ∷ 0 ∷ 5 ∷ 0 ∷ []))
    ∷ source_of Biff8 (typed 0xD6 (3 ∷ 0 ∷ 2 ∷ 0 ∷ 15 ∷ 0 ∷ 2 ∷ 0 ∷ 1 ∷ 0x61 ∷ 0 ∷ 0x62 ∷ 0 ∷ 1 ∷ 0 ∷ 1 ∷ 0 ∷ 5 ∷ 0 ∷ []))
    ∷ source_of Biff8 (typed 0xD6 (3 ∷ 0 ∷ 2 ∷ 0 ∷ 15 ∷ 0 ∷ 9 ∷ 0 ∷ []))
    ∷ []
    ≡ own_runs (1 ∷ 1 ∷ 5 ∷ []) ∷ own_runs (1 ∷ 0 ∷ 1 ∷ 0 ∷ 5 ∷ 0 ∷ []) ∷ own_runs (1 ∷ 0 ∷ 1 ∷ 0 ∷ 5 ∷ 0 ∷ []) ∷ own_runs [] ∷ []
known_own = refl

-- a MulRk of three cells from column 4 on, and a MulBlank of three
pub known_mul_rk : cells_at Biff8 (typed 0xBD (flat_map le16 (3 ∷ 4 ∷ 15 ∷ 0 ∷ 0 ∷ 16 ∷ 0 ∷ 0 ∷ 17 ∷ 0 ∷ 0 ∷ 6 ∷ [])))
    ≡ ((3, 4), (15, no_runs)) ∷ ((3, 5), (16, no_runs)) ∷ ((3, 6), (17, no_runs)) ∷ []
known_mul_rk = refl

pub known_mul_blank : cells_at Biff8 (typed 0xBE (flat_map le16 (3 ∷ 4 ∷ 15 ∷ 16 ∷ 17 ∷ 6 ∷ [])))
    ≡ ((3, 4), (15, no_runs)) ∷ ((3, 5), (16, no_runs)) ∷ ((3, 6), (17, no_runs)) ∷ []
known_mul_blank = refl

-- a MulBlank with an odd byte before its last column, and one past the column 65,535
pub known_odd : cells_at Biff8 (typed 0xBE (flat_map le16 (3 ∷ 4 ∷ 15 ∷ []) ++ 16 ∷ 5 ∷ 0 ∷ [])) ≡ ((3, 4), (15, no_runs)) ∷ []
known_odd = refl

pub known_last_column : cells_at Biff8 (typed 0xBE (flat_map le16 (3 ∷ 0xFFFE ∷ 15 ∷ 16 ∷ 17 ∷ 6 ∷ [])))
    ≡ ((3, 0xFFFE), (15, no_runs)) ∷ ((3, 0xFFFF), (16, no_runs)) ∷ []
known_last_column = refl

-- by row and then by column; of the cell that has two records the last counts
pub known_order : cells_of Biff8 (typed 0x201 (flat_map le16 (2 ∷ 1 ∷ 20 ∷ [])) ∷ typed 0x203 (flat_map le16 (1 ∷ 7 ∷ 21 ∷ [])) ∷ typed 0xBE (flat_map le16 (1 ∷ 6 ∷ 22 ∷ 23 ∷ 7 ∷ [])) ∷ typed 0x208 [] ∷ typed 0x201 (flat_map le16 (2 ∷ 0 ∷ 24 ∷ [])) ∷ [])
    ≡ ((1, 6), (22, no_runs)) ∷ ((1, 7), (23, no_runs)) ∷ ((2, 0), (24, no_runs)) ∷ ((2, 1), (20, no_runs)) ∷ []
known_order = refl

-- which positions ascend: none, and those of two rows; not equal ones, nor an earlier column or row
pub known_ascents : map (ascends None) ([] ∷ ((1, 6) ∷ (1, 7) ∷ (2, 0) ∷ []) ∷ ((1, 6) ∷ (1, 6) ∷ []) ∷ ((1, 6) ∷ (1, 5) ∷ []) ∷ ((1, 6) ∷ (2, 0) ∷ (0, 9) ∷ []) ∷ [])
    ≡ true ∷ true ∷ false ∷ false ∷ false ∷ []
known_ascents = refl

-- ---- runs

abbrev run : ℕ → ℕ → Run
run unit font = record { unit = unit; font = font }

-- those of an RString: of BIFF5 with numbers of one byte, of BIFF8 of two; a count that passes the bytes
pub known_own_lists : own_list Biff5 (2 ∷ 1 ∷ 5 ∷ 3 ∷ 6 ∷ 9 ∷ []) ∷ own_list Biff5 (9 ∷ 1 ∷ 5 ∷ 3 ∷ []) ∷ own_list Biff5 []
    ∷ own_list Biff8 (2 ∷ 0 ∷ 1 ∷ 0 ∷ 5 ∷ 0 ∷ 0x03 ∷ 0x01 ∷ 0x06 ∷ 0x02 ∷ 9 ∷ []) ∷ own_list Biff8 (9 ∷ 0 ∷ 1 ∷ 0 ∷ 5 ∷ 0 ∷ 3 ∷ 1 ∷ 6 ∷ []) ∷ own_list Biff8 (1 ∷ []) ∷ []
    ≡ (run 1 5 ∷ run 3 6 ∷ []) ∷ (run 1 5 ∷ []) ∷ [] ∷ (run 1 5 ∷ run 0x103 0x206 ∷ []) ∷ (run 1 5 ∷ []) ∷ [] ∷ []
unfolding runs_in
known_own_lists = refl

-- a table of four strings: `a` without runs; `bcd` with two runs, cut by a Continue in its units and by another inside
-- its first run; `e` with a run and an extension of two bytes; an empty one
abbrev table : List Mark
table = marked (1 ∷ 0 ∷ 0 ∷ 0x61 ∷ 3 ∷ 0 ∷ 8 ∷ 2 ∷ 0 ∷ 0x62 ∷ [])
    ((1 ∷ 0x63 ∷ 0 ∷ 0x64 ∷ 0 ∷ 1 ∷ 0 ∷ 5 ∷ []) ∷ (0 ∷ 2 ∷ 0 ∷ 6 ∷ 0 ∷ 1 ∷ 0 ∷ 0x0C ∷ 1 ∷ 0 ∷ 2 ∷ 0 ∷ 0 ∷ 0 ∷ 0x65 ∷ 0 ∷ 0 ∷ 7 ∷ 0 ∷ 0xAA ∷ 0xBB ∷ 0 ∷ 0 ∷ 0 ∷ []) ∷ [])

pub known_string_runs : map (λ i. string_runs i table) (0 ∷ 1 ∷ 2 ∷ 3 ∷ 4 ∷ 5 ∷ [])
    ≡ [] ∷ (run 1 5 ∷ run 2 6 ∷ []) ∷ (run 0 7 ∷ []) ∷ [] ∷ [] ∷ [] ∷ []
unfolding string_runs runs_in units_at tail_at
known_string_runs = refl

-- a string that begins in the next piece, behind one that ends with its piece
pub known_next_piece : map (λ i. string_runs i (marked (1 ∷ 0 ∷ 0 ∷ 0x61 ∷ []) ((1 ∷ 0 ∷ 8 ∷ 1 ∷ 0 ∷ 0x62 ∷ 3 ∷ 0 ∷ 4 ∷ 0 ∷ []) ∷ []))) (0 ∷ 1 ∷ []) ≡ [] ∷ (run 3 4 ∷ []) ∷ []
unfolding string_runs runs_in units_at tail_at
known_next_piece = refl

-- runs that end with the table: the whole ones, and no string behind them
pub known_cut : map (λ i. string_runs i (marked (1 ∷ 0 ∷ 8 ∷ 2 ∷ 0 ∷ 0x61 ∷ 3 ∷ 0 ∷ 4 ∷ 0 ∷ 9 ∷ []) [])) (0 ∷ 1 ∷ []) ≡ (run 3 4 ∷ []) ∷ [] ∷ []
unfolding string_runs runs_in units_at tail_at
known_cut = refl

-- of two SST records before the EOF the last counts, with the Continue records directly behind it
pub known_table : table_from [] (typed 0xFC (9 ∷ []) ∷ typed 0xFC (0 ∷ 0 ∷ 0 ∷ 0 ∷ 0 ∷ 0 ∷ 0 ∷ 0 ∷ 7 ∷ []) ∷ typed 0x3C (8 ∷ []) ∷ typed 0x3C [] ∷ typed 0x31 (1 ∷ []) ∷ typed 0x3C (2 ∷ []) ∷ [])
    ≡ Some 7 ∷ None ∷ Some 8 ∷ None ∷ []
known_table = refl

pub known_runs_of : map (runs_of Biff8 table) (no_runs ∷ shared_runs 2 ∷ own_runs (1 ∷ 0 ∷ 4 ∷ 0 ∷ 5 ∷ 0 ∷ []) ∷ []) ≡ [] ∷ (run 0 7 ∷ []) ∷ (run 4 5 ∷ []) ∷ []
unfolding string_runs runs_in units_at tail_at
known_runs_of = refl
