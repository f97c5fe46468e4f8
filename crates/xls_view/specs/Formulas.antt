-- The formulas of a sheet by their tokens, by its kept records.
use Rattle.std.specs.Prelude.{◌≡◌, ℕ, List, map, ◌==◌, false, if◌then◌else◌, Option, Some, None, [], Result, Ok, Err}
use Rattle.xls_stream.specs.Listing.{Kept}
use Rattle.xls_stream.specs.declared.types.TheConstants as types
use Rattle.xls_data.specs.Content.{Content}
use Rattle.xls_range.specs.Positions.{Position, IsAscending, last_at}
use Rattle.xls_record.specs.declared.error.XlsError.{XlsError}
use Rattle.xls_biff.specs.Records.Formula.{formula_at}
use Rattle.xls_biff.specs.SheetTable.{SheetRecord, formula_record}
use Rattle.xls_formula.specs.Context.{Context}
use Rattle.xls_formula.specs.Fold.{formula_text}
use Rattle.xls_meaning.specs.Order.{somes}
use Rattle.xls_meaning.specs.SheetTable.{FormulaEntry, displayed_formula}

-- where a formula stands, and its tokens
abbrev pub Formula : Type 0
Formula = Position × List ℕ

abbrev pub formula_in : Result (Position × Option Content × List ℕ) XlsError → Option Formula
formula_in (Ok f) = Some (f.0, f.2)
formula_in (Err e) = None

-- that of a Formula record ([MS-XLS] Formula); position and tokens hang on no class and no date system
abbrev pub formula_of : Kept → Option Formula
formula_of k = if k.typ == types.FORMULA then formula_in (formula_at [] false k.body) else None

-- likewise by its line of a sheet's table
abbrev pub formula_from : Result SheetRecord XlsError → Option Formula
formula_from (Ok (formula_record at value tokens)) = Some (at, tokens)
formula_from line = None

-- those of a sheet's records in order
abbrev pub formulas_kept : List Kept → List Formula
formulas_kept kept = somes (map formula_of kept)

-- by row, then column, and of these values at each position the last one alone
pub record AreLast {X : Type 0} (input values : List (Position × X)) : Type 0 where
  pub ascending : IsAscending (map (λ (x : Position × X). x.0) values)
  pub last : (p : Position) → last_at values p ≡ last_at input p

-- its text, or why it is refused, at its position
abbrev pub text_entry : Context → Formula → FormulaEntry
text_entry context f = (f.0, displayed_formula f.0 (formula_text context f.1))
