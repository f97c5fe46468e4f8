-- Known values, in the bytes of records, so that a wrong rule in the definitions does not check.
use Rattle.std.proofs.Common.{◌≡◌, ℕ, ◌+◌, List, [], ◌∷◌, ◌++◌, map, replicate, take, refl, true, false, Option, Some, None, Ok, Err, codes}
use Rattle.std.specs.Fmt.{digits}
use Rattle.xls_bytes.specs.Numbers.{le16}
use Rattle.xls_stream.specs.Stream.{record_bytes}
use Rattle.xls_stream.specs.declared.part.Part.TheVariants as parts
use Rattle.xls_record.specs.declared.error.XlsError.TheVariants as errors
use Rattle.xls_record.specs.declared.version.Biff.TheVariants.{Biff2, Biff3, Biff4, Biff5, Biff8}
use Rattle.xls_parts.specs.PartRecords.{records_within, outer_from, own_from}
use Rattle.xls_bodies.specs.Bodies.{continued}
use Rattle.xls_shown_ptg.specs.FaultText.{fault_text}
use Rattle.xls_shown_ptg.specs.declared.fault.Fault.TheVariants as faults
use Rattle.xls_shared_formulas.specs.declared.types.TheConstants as types
use Rattle.xls_shared_formulas.specs.declared.contents.TableInput.{TableInput}
use Rattle.xls_shared_formulas.specs.declared.contents.TableInput.TheVariants.{Cell, Gone}
use Rattle.xls_shared_formulas.specs.declared.contents.TableInputs.{TableInputs}
use Rattle.xls_shared_formulas.specs.declared.fields.CellPlace.{CellPlace}
use Rattle.xls_shared_formulas.specs.declared.fields.CellRange.{CellRange}
use Rattle.xls_shared_formulas.specs.declared.fields.FormulaKind.{FormulaKind}
use Rattle.xls_shared_formulas.specs.declared.fields.FormulaKind.TheVariants.{Shared, Array, Table}
use Rattle.xls_shared_formulas.specs.declared.found.RangeFormula.{RangeFormula}
use Rattle.xls_shared_formulas.specs.declared.start.FormulaStart.TheVariants.{Own, Exp, Tbl}
use Rattle.xls_shared_formulas.specs.Fields.{formula_cell, holds, kind_of, least_size, range_in}
use Rattle.xls_shared_formulas.specs.Found.{Known, formula_for, formulas_from, formulas_in, formulas_of, last_at, lines_in, number}
use Rattle.xls_shared_formulas.specs.Found.{table_for, tables_of}
use Rattle.xls_shared_formulas.specs.Contents.{contents_of, formula, inputs_at, table}
use Rattle.xls_shared_formulas.specs.Start.{start_at}

-- ---- fields

-- the numbers of the record types
pub known_types : types.EARLY_SHR_FMLA ∷ types.ARRAY ∷ types.TABLE ∷ types.SHR_FMLA ∷ [] ≡ 0x0BC ∷ 0x221 ∷ 0x236 ∷ 0x4BC ∷ []
known_types = refl

-- what each type holds in BIFF5 and BIFF8: those, a Formula, a Continue, and the types of versions before them
abbrev some_types : List ℕ
some_types = 0x4BC ∷ 0x0BC ∷ 0x221 ∷ 0x236 ∷ 0x006 ∷ 0x03C ∷ 0x021 ∷ 0x036 ∷ []

pub known_kinds_of_biff8 : map (kind_of Biff8) some_types ≡ Some Shared ∷ None ∷ Some Array ∷ Some Table ∷ None ∷ None ∷ None ∷ None ∷ []
known_kinds_of_biff8 = refl

pub known_kinds_before : map (kind_of Biff5) some_types ≡ Some Shared ∷ Some Shared ∷ Some Array ∷ Some Table ∷ None ∷ None ∷ None
    ∷ None ∷ []
known_kinds_before = refl

pub known_early_kinds : map (λ version. kind_of version 0x0BC) (Biff2 ∷ Biff3 ∷ Biff4 ∷ Biff5 ∷ Biff8 ∷ []) ≡ Some Shared ∷ Some Shared
    ∷ Some Shared ∷ Some Shared ∷ None ∷ []
known_early_kinds = refl

pub known_sizes : map least_size (Shared ∷ Array ∷ Table ∷ []) ≡ 10 ∷ 14 ∷ 16 ∷ []
known_sizes = refl

abbrev at : ℕ → ℕ → CellPlace
at row column = record { row = row; column = column }

abbrev ranging : ℕ → ℕ → ℕ → ℕ → CellRange
ranging first_row last_row first_column last_column =
    record { first_row = first_row; last_row = last_row; first_column = first_column; last_column = last_column }

-- the row comes before the column, and the lowest byte first
pub known_cells : map formula_cell ((1 ∷ 2 ∷ 3 ∷ 4 ∷ 5 ∷ []) ∷ (1 ∷ 2 ∷ 3 ∷ []) ∷ []) ≡ Some (at 0x0201 0x0403) ∷ None ∷ []
known_cells = refl

-- rows in two bytes each come before columns in one each
pub known_range : range_in 10 (1 ∷ 2 ∷ 3 ∷ 4 ∷ 5 ∷ 6 ∷ 7 ∷ 8 ∷ 9 ∷ 10 ∷ []) ≡ Some (ranging 0x0201 0x0403 5 6)
known_range = refl

-- a byte less than each record needs, and as many
pub known_lengths : map (λ kind. range_in (least_size kind) (replicate 9 0)) (Shared ∷ Array ∷ Table ∷ [])
    ∷ map (λ kind. range_in (least_size kind) (replicate 13 0)) (Shared ∷ Array ∷ Table ∷ [])
    ∷ map (λ kind. range_in (least_size kind) (replicate 15 0)) (Shared ∷ Array ∷ Table ∷ [])
    ∷ map (λ kind. range_in (least_size kind) (replicate 16 0)) (Shared ∷ Array ∷ Table ∷ []) ∷ []
    ≡ (None ∷ None ∷ None ∷ []) ∷ (Some (ranging 0 0 0 0) ∷ None ∷ None ∷ [])
    ∷ (Some (ranging 0 0 0 0) ∷ Some (ranging 0 0 0 0) ∷ None ∷ [])
    ∷ (Some (ranging 0 0 0 0) ∷ Some (ranging 0 0 0 0) ∷ Some (ranging 0 0 0 0) ∷ []) ∷ []
known_lengths = refl

-- the cells of B3:C5, and those around them; a column past 255 is in no range, and no cell in one whose corners are exchanged
pub known_held : map (holds (ranging 2 4 1 2)) (at 2 1 ∷ at 4 2 ∷ at 3 1 ∷ at 1 1 ∷ at 5 1 ∷ at 2 0 ∷ at 2 3 ∷ at 2 257 ∷ [])
    ≡ true ∷ true ∷ true ∷ false ∷ false ∷ false ∷ false ∷ false ∷ []
known_held = refl

pub known_exchanged : map (holds (ranging 4 2 1 2)) (at 2 1 ∷ at 3 1 ∷ at 4 2 ∷ []) ≡ false ∷ false ∷ false ∷ []
known_exchanged = refl

pub known_numbers : map number (at 0 0 ∷ at 0 65535 ∷ at 1 0 ∷ at 65535 65535 ∷ []) ≡ 0 ∷ 0xFFFF ∷ 0x10000 ∷ 0xFFFFFFFF ∷ []
known_numbers = refl

-- ---- a sheet

-- a Formula at a row and column, whose other bytes aren't looked at
abbrev formula_record : ℕ → ℕ → List ℕ
formula_record row column = record_bytes 0x006 (le16 row ++ le16 column)

-- rows 1 to 3 and columns 2 to 4, then so many bytes
abbrev range_record : ℕ → ℕ → List ℕ
range_record typ rest = record_bytes typ (1 ∷ 0 ∷ 3 ∷ 0 ∷ 2 ∷ 4 ∷ replicate rest 0)

abbrev found : ℕ → FormulaKind → ℕ → ℕ → RangeFormula
found offset kind row column = record { offset = offset; kind = kind; range = ranging 1 3 2 4; anchor = at row column }

-- a ShrFmla before all cells with formulas; one of a cell; a second cell, which isn't the corner of the range, with an Array, a
-- Table and a ShrFmla that are each a byte too short; an Array of a chart and one of a custom view; a Formula that is too short;
-- and a Table
abbrev part : List ℕ
part = record_bytes 0x809 [] ++ range_record 0x4BC 4 ++ formula_record 1 2 ++ range_record 0x4BC 4
    ++ formula_record 2 3 ++ range_record 0x221 7 ++ range_record 0x236 9 ++ range_record 0x4BC 3
    ++ record_bytes 0x809 [] ++ formula_record 9 9 ++ range_record 0x221 8 ++ record_bytes 0x00A []
    ++ record_bytes 0x1AA [] ++ range_record 0x221 8 ++ record_bytes 0x1AB []
    ++ record_bytes 0x006 (1 ∷ 0 ∷ 2 ∷ []) ++ range_record 0x236 10 ++ record_bytes 0x00A [] ++ range_record 0x4BC 4

pub known_found : formulas_in Biff8 1000 part ≡ found 1026 Shared 1 2 ∷ found 1164 Table 2 3 ∷ []
unfolding records_within outer_from own_from continued formulas_from
known_found = refl

-- the type 00BC counts before BIFF8, and the bytes of Continue records count too
abbrev early_part : List ℕ
early_part = formula_record 1 2 ++ range_record 0x0BC 4 ++ record_bytes 0x221 (1 ∷ 0 ∷ 3 ∷ [])
    ++ record_bytes 0x03C (0 ∷ 2 ∷ 4 ∷ 0 ∷ []) ++ record_bytes 0x03C (replicate 7 0)

pub known_early : formulas_in Biff5 0 early_part ∷ formulas_in Biff8 0 early_part ∷ formulas_in Biff8 0 (take 43 early_part) ∷ []
    ≡ (found 8 Shared 1 2 ∷ found 22 Array 1 2 ∷ []) ∷ (found 22 Array 1 2 ∷ []) ∷ [] ∷ []
unfolding records_within outer_from own_from continued formulas_from
known_early = refl

-- ---- the last of a cell counts

-- of C2 a shared formula, a table and an array; of D3 an array and a shared formula; of E4 an array
abbrev some : List RangeFormula
some = found 10 Shared 1 2 ∷ found 20 Table 1 2 ∷ found 30 Array 1 2 ∷ found 40 Array 2 3 ∷ found 50 Shared 2 3 ∷ found 60 Array 3 4 ∷ []

pub known_formulas : map (λ cell. last_at (number cell) (formulas_of some)) (at 1 2 ∷ at 2 3 ∷ at 3 4 ∷ at 2 1 ∷ [])
    ≡ Some (found 30 Array 1 2) ∷ Some (found 50 Shared 2 3) ∷ Some (found 60 Array 3 4) ∷ None ∷ []
known_formulas = refl

pub known_tables : map (λ cell. last_at (number cell) (tables_of some)) (at 1 2 ∷ at 2 3 ∷ []) ≡ Some (found 20 Table 1 2) ∷ None ∷ []
known_tables = refl

-- a token's cell need not be in the range, but the cell that has the token
pub known_tokens : map (formula_for (formulas_of some) (at 1 2)) (at 1 2 ∷ at 3 4 ∷ at 4 4 ∷ [])
    ∷ map (formula_for (found 7 Shared 9 9 ∷ []) (at 9 9)) (at 2 2 ∷ at 9 9 ∷ []) ∷ []
    ≡ (Ok (found 30 Array 1 2) ∷ Ok (found 30 Array 1 2) ∷ Err (faults.NoFormula 1 2) ∷ [])
    ∷ (Ok (found 7 Shared 9 9) ∷ Err (faults.NoFormula 9 9) ∷ []) ∷ []
known_tokens = refl

pub known_table_tokens : map (table_for (tables_of some) (at 1 2)) (at 1 2 ∷ at 0 2 ∷ [])
    ∷ map (table_for (tables_of some) (at 2 3)) (at 2 3 ∷ []) ∷ []
    ≡ (Ok (found 20 Table 1 2) ∷ Err (faults.NoTable 1 2) ∷ []) ∷ (Err (faults.NoTable 2 3) ∷ []) ∷ []
known_table_tokens = refl

abbrev known : List ℕ → Known
known bytes = record {
  version = Biff8;
  offset = 0;
  part = bytes;
  formulas = formulas_of (formulas_in Biff8 0 bytes);
  tables = tables_of (formulas_in Biff8 0 bytes);
}

-- an array that a later shared formula of its cell takes the place of has no line, nor has a shared formula; a table and an array
-- of one cell have both
pub known_lines : lines_in (known (formula_record 1 2 ++ range_record 0x221 8 ++ range_record 0x4BC 4 ++ formula_record 2 3
    ++ range_record 0x236 10 ++ range_record 0x221 8 ++ range_record 0x221 8))
    ≡ found 48 Table 2 3 ∷ found 86 Array 2 3 ∷ []
unfolding records_within outer_from own_from continued formulas_from
known_lines = refl

-- ---- contents

-- a range and a count, so many bytes behind the range
abbrev body : ℕ → ℕ → List ℕ → List ℕ
body gap cce rest = replicate (6 + gap) 9 ++ le16 cce ++ rest

-- tokens and extra bytes: of a ShrFmla behind 2 bytes, and of an Array behind 6
pub known_contents : contents_of Shared (body 2 3 (1 ∷ 2 ∷ 3 ∷ 4 ∷ 5 ∷ [])) ∷ contents_of Array (body 6 3 (1 ∷ 2 ∷ 3 ∷ 4 ∷ 5 ∷ []))
    ∷ contents_of Shared (body 2 0 []) ∷ []
    ≡ Ok (formula (1 ∷ 2 ∷ 3 ∷ []) (4 ∷ 5 ∷ [])) ∷ Ok (formula (1 ∷ 2 ∷ 3 ∷ []) (4 ∷ 5 ∷ [])) ∷ Ok (formula [] []) ∷ []
known_contents = refl

-- tokens that are cut
pub known_cut : contents_of Shared (body 2 0x0103 (1 ∷ 2 ∷ [])) ∷ contents_of Array (body 6 4 (1 ∷ 2 ∷ 3 ∷ []))
    ∷ contents_of Array (body 2 4 (1 ∷ 2 ∷ 3 ∷ [])) ∷ []
    ≡ Err (faults.Xls (errors.Len 0x0103 2 parts.Rgce)) ∷ Err (faults.Xls (errors.Len 4 3 parts.Rgce))
    ∷ Err (faults.Xls (errors.Len 14 13 parts.Rgce)) ∷ []
known_cut = refl

pub known_cut_text : fault_text (faults.Xls (errors.Len 9 3 parts.Rgce)) ≡ codes "Invalid rgce length, expected at least 9, found 3"
unfolding digits
known_cut_text = refl

-- a table of these flags, with the inputs at row 0102, column 0304, and at row 0506, column 0708
abbrev table_body : ℕ → List ℕ
table_body flags = replicate 6 9 ++ le16 flags ++ 2 ∷ 1 ∷ 4 ∷ 3 ∷ 6 ∷ 5 ∷ 8 ∷ 7 ∷ []

abbrev first : TableInput
first = Cell (at 0x0102 0x0304)

abbrev second : TableInput
second = Cell (at 0x0506 0x0708)

abbrev inputs : Option TableInput → Option TableInput → TableInputs
inputs row column = record { row = row; column = column }

-- each flag alone
pub known_flags : map (λ flags. inputs_at (table_body flags)) (0x0000 ∷ 0x0001 ∷ 0x0002 ∷ 0x0004 ∷ 0x0008 ∷ 0x0010 ∷ 0x0020 ∷ 0x0040
    ∷ 0x0080 ∷ 0x0100 ∷ 0x8000 ∷ [])
    ≡ inputs None (Some first) ∷ inputs None (Some first) ∷ inputs None (Some first) ∷ inputs (Some first) None
    ∷ inputs (Some first) (Some second) ∷ inputs None (Some Gone)
    ∷ inputs None (Some first) ∷ inputs None (Some first) ∷ inputs None (Some first) ∷ inputs None (Some first)
    ∷ inputs None (Some first) ∷ []
known_flags = refl

-- and those that say more together
pub known_pairs_of_flags : map (λ flags. inputs_at (table_body flags)) (0x0C ∷ 0x14 ∷ 0x24 ∷ 0x18 ∷ 0x28 ∷ 0x38 ∷ 0xFFFF ∷ [])
    ≡ inputs (Some first) (Some second) ∷ inputs (Some Gone) None ∷ inputs (Some first) None ∷ inputs (Some Gone) (Some second)
    ∷ inputs (Some first) (Some Gone)
    ∷ inputs (Some Gone) (Some Gone) ∷ inputs (Some Gone) (Some Gone) ∷ []
known_pairs_of_flags = refl

pub known_table : contents_of Table (table_body 8) ∷ contents_of Table (take 15 (table_body 8)) ∷ []
    ≡ Ok (table (inputs (Some first) (Some second))) ∷ Err (faults.Xls (errors.Len 16 15 parts.Rgce)) ∷ []
known_table = refl

-- ---- tokens

-- row and column stand behind the token; what stands behind them isn't read
pub known_starts : map start_at ((1 ∷ 2 ∷ 1 ∷ 4 ∷ 3 ∷ []) ∷ (2 ∷ 2 ∷ 1 ∷ 4 ∷ 3 ∷ 9 ∷ 9 ∷ []) ∷ [] ∷ (0 ∷ []) ∷ (3 ∷ [])
    ∷ (0x24 ∷ 1 ∷ []) ∷ (0x1E ∷ 2 ∷ 0 ∷ 1 ∷ 0 ∷ 0 ∷ 0 ∷ 0 ∷ []) ∷ [])
    ≡ Ok (Exp (at 0x0102 0x0304)) ∷ Ok (Tbl (at 0x0102 0x0304)) ∷ Ok Own ∷ Ok Own ∷ Ok Own ∷ Ok Own ∷ Ok Own ∷ []
known_starts = refl

-- a token that is cut: with three bytes, and with none
pub known_cut_starts : map start_at ((1 ∷ 2 ∷ 1 ∷ 4 ∷ []) ∷ (1 ∷ []) ∷ (2 ∷ 2 ∷ 1 ∷ 4 ∷ []) ∷ (2 ∷ []) ∷ [])
    ≡ Err (faults.Xls (errors.Len 4 3 parts.PtgExp)) ∷ Err (faults.Xls (errors.Len 4 0 parts.PtgExp)) ∷ Err (faults.Tbl 4 3)
    ∷ Err (faults.Tbl 4 0) ∷ []
known_cut_starts = refl

pub known_texts : map fault_text (faults.NoFormula 1 2 ∷ faults.NoTable 65535 0 ∷ faults.Tbl 4 3
    ∷ faults.Xls (errors.Len 4 0 parts.PtgExp) ∷ [])
    ≡ codes "No formula at (1, 2)" ∷ codes "No table at (65535, 0)" ∷ codes "Invalid PtgTbl length, expected at least 4, found 3"
    ∷ codes "Invalid PtgExp length, expected at least 4, found 0" ∷ []
unfolding digits
known_texts = refl
