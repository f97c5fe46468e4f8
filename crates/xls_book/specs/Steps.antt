-- Steps of opening and of the look-ups, for the proofs.
use Rattle.std.specs.Prelude.{◌≡◌, ℕ, String, List, [], ◌∷◌, map, Option, Some, None, Result, Ok, Err}
use Rattle.std.specs.String.{string_bytes}
use Rattle.std.specs.Str.{chars}
use Rattle.std.specs.Global.{Global}
use Rattle.std.specs.Borrow.{Bor}
use Rattle.xls_range.specs.Positions.{Position}
use Rattle.xls_meaning.specs.SheetTable.{nonempty_formulas}
use Rattle.xls_record.specs.declared.error.XlsError.{XlsError}
use Rattle.xls_open.specs.declared.options.XlsOptions.{XlsOptions}
use Rattle.xls_open.specs.Workbook.{Workbook, view_of, formula_content, rules_of}
use Rattle.xls_view.specs.Viewing.{Viewed, IsViewed, ViewCause}

-- a list of formulas that is empty or begins with one that is shown
abbrev pub BeginsDisplayed : List (Position × String Global) → Type 0
BeginsDisplayed [] = Unit {0}
BeginsDisplayed (f ∷ fs) = string_bytes f.1 ≡ [] → ⊥

-- the same without those at the start that aren't shown
pub record IsFromDisplayed (all rest : List (Position × String Global)) : Type 0 where
  pub same : nonempty_formulas (map formula_content rest) ≡ nonempty_formulas (map formula_content all)
  pub begins : BeginsDisplayed rest

-- the first that is shown, and those after it
abbrev pub FirstDisplayed : List (Position × String Global)
    → Option (ℕ × ℕ × Bor (List ℕ) × Bor (List (Position × String Global))) → Type 0
FirstDisplayed all None = nonempty_formulas (map formula_content all) ≡ []
FirstDisplayed all (Some f) =
    nonempty_formulas (map formula_content all)
    ≡ ((f.0, f.1), chars f.2.now) ∷ nonempty_formulas (map formula_content f.3.now)

-- bytes that are opened: the workbook of a view of them under these options, or why there is no view
abbrev pub OpensBytes : XlsOptions → List ℕ → Result Workbook XlsError → Type 0
OpensBytes options bytes (Ok book) =
    (book.options ≡ options) × (v : Viewed) × IsViewed (rules_of options) bytes v × (view_of book ≡ v.book)
OpensBytes options bytes (Err e) = ViewCause (rules_of options) bytes e
