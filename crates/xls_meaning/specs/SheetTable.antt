-- What a kept record adds to its sheet, by the table of a sheet's records.
use Rattle.std.specs.Prelude.{ℕ, List, [], ◌∷◌, ◌++◌, map, codes, Option, Some, None, unwrap_or, Result, Ok, Err}
use Rattle.std.specs.Fmt.{decimal}
use Rattle.std.specs.Str.{chars}
use Rattle.xls_stream.specs.Listing.{Kept}
use Rattle.xls_data.specs.Content.{Content, text}
use Rattle.xls_data.specs.declared.regions.Dimensions.{Dimensions}
use Rattle.xls_record.specs.declared.error.XlsError.{XlsError}
use Rattle.xls_record.specs.ErrorText.{error_text}
use Rattle.xls_record.specs.Reading.{gives}
use Rattle.xls_biff.specs.Cells.{Position, CellEntry}
use Rattle.xls_biff.specs.SheetTable.{CellContext, SheetRecord, empty_record, cells_record, shared_record, string_record, formula_record, regions_record, sheet_record_at, position_in}
use Rattle.xls_formula.specs.Context.{Context}
use Rattle.xls_formula.specs.Fold.{formula_text}
use Rattle.xls_meaning.specs.Order.{last_of}
use Rattle.xls_meaning.specs.Settings.{Settings}

-- a formula's text at its position
abbrev pub FormulaEntry : Type 0
FormulaEntry = Position × List ℕ

-- the formulas whose text isn't empty
abbrev pub nonempty_formulas : List FormulaEntry → List FormulaEntry
nonempty_formulas [] = []
nonempty_formulas ((p, []) ∷ fs) = nonempty_formulas fs
nonempty_formulas ((p, c ∷ cs) ∷ fs) = (p, c ∷ cs) ∷ nonempty_formulas fs

-- what a record gives: cells, regions, and the text of a formula
pub record Yield : Type 0 where
  pub cells : List CellEntry
  pub regions : List Dimensions
  pub formulas : List FormulaEntry

abbrev pub nothing : Yield
nothing = record { cells = []; regions = []; formulas = [] }

-- one cell
abbrev pub one_cell : CellEntry → Yield
one_cell c = record { cells = c ∷ []; regions = []; formulas = [] }

abbrev pub many_cells : List CellEntry → Yield
many_cells cs = record { cells = cs; regions = []; formulas = [] }

abbrev pub listed_cell : Option CellEntry → List CellEntry
listed_cell None = []
listed_cell (Some c) = c ∷ []

abbrev pub all_regions : List Dimensions → Yield
all_regions rs = record { cells = []; regions = rs; formulas = [] }

-- a String ([MS-XLS] String) is the text of the Formula before it, which stands here
abbrev pub text_cell : Position → List ℕ → Yield
text_cell at cs = one_cell (at, text cs)

-- ---- Formula ([MS-XLS] Formula)

-- what stands in place of a formula that is refused, in UTF-8: where it is, and why
abbrev pub refusal_bytes : Position → XlsError → List ℕ
refusal_bytes p e =
    codes "Unrecognised formula for cell (" ++ decimal p.0 ++ codes ", " ++ decimal p.1 ++ codes "): "
    ++ error_text e

-- the text of a formula, or why it is refused
abbrev pub displayed_formula : Position → Result (List ℕ) XlsError → List ℕ
displayed_formula p (Ok cs) = cs
displayed_formula p (Err e) = chars (refusal_bytes p e)

abbrev pub listed_value : Position → Option Content → List CellEntry
listed_value p None = []
listed_value p (Some c) = (p, c) ∷ []

-- the value, if the record has one, and the text of its tokens
abbrev pub formula_cell : Context → Position × Option Content × List ℕ → Yield
formula_cell c f =
    record {
      cells = listed_value f.0 f.1;
      regions = [];
      formulas = (f.0, displayed_formula f.0 (formula_text c f.2)) ∷ [];
    }

-- ---- a kept record

-- what it adds, where the last Formula before it stands here
abbrev pub adds : Context → Position → SheetRecord → Yield
adds c at empty_record = nothing
adds c at (cells_record cs) = many_cells cs
adds c at (shared_record cell) = many_cells (listed_cell cell)
adds c at (string_record cs) = text_cell at cs
adds c at (formula_record p value tokens) = formula_cell c (p, value, tokens)
adds c at (regions_record rs) = all_regions rs

-- its line of the table
abbrev pub kept_line : CellContext → Kept → Result SheetRecord XlsError
kept_line settings k = sheet_record_at settings k.typ k.body

abbrev pub yield_at : Settings → Position → Kept → Result Yield XlsError
yield_at s at k = gives (adds s.formulas at) (kept_line s.cells k)

-- the position of the last Formula among these records, or else the first cell's
abbrev pub last_formula : CellContext → List Kept → Position
last_formula settings ks = unwrap_or (last_of (map (λ (k : Kept). position_in (kept_line settings k)) ks)) (0, 0)

-- what a kept record adds after those before it
abbrev pub yield_in : Settings → List Kept → Kept → Result Yield XlsError
yield_in s before k = yield_at s (last_formula s.cells before) k
