-- The workbook of a stream, as functions of its bytes, for the view of a `View`.
use Rattle.std.specs.Prelude.{ℕ, List, [], map, unwrap_or}
use Rattle.std.specs.List.{AllByRecursion}
use Rattle.xls_data.specs.Sheets.{SheetContent}
use Rattle.xls_biff.specs.SheetTable.{CellContext}
use Rattle.xls_meaning.specs.Settings.{Settings}
use Rattle.xls_meaning.specs.Reading.{last_named, paired}
use Rattle.xls_open.specs.Workbook.{views_listed}
use Rattle.xls_view.specs.Viewing.{Viewed}
use Rattle.xls_view.specs.SheetContents.{IsReadable, content_by, formatted_at, formulas_at, kept_at}

-- each kept record of the parts at these offsets has no fault
abbrev pub AreReadable : CellContext → List ℕ → List ℕ → Type 0
AreReadable s bytes offsets =
    AllByRecursion (λ (offset : ℕ). AllByRecursion (IsReadable s) (kept_at bytes offset)) offsets

-- ---- the workbook

-- what is at the last sheet of each name
abbrev pub by_name : {X : Type 0} → X → List SheetContent → List X → List X
by_name none sheets xs = map (λ (s : SheetContent). unwrap_or (last_named (paired sheets xs) s.name) none) sheets

-- the view of these bytes, where this is in force, of these sheets whose parts are at these offsets, of
-- these defined names, and of the formats of these XFs with these codes
abbrev pub viewed : List ℕ → Settings → List SheetContent → List ℕ → List (List ℕ × List ℕ) → List ℕ → List (ℕ × List ℕ) → Viewed
viewed bytes s sheets offsets names identifiers codes =
    record {
      book = record {
        sheets = sheets;
        names = names;
        contents = views_listed (paired sheets (map (λ (offset : ℕ). content_by s (kept_at bytes offset)) offsets)) sheets;
        is_1904 = s.cells.is_1904;
        classes = s.cells.classes;
      };
      cells = s.cells;
      context = s.formulas;
      formulas = by_name [] sheets (map (formulas_at bytes) offsets);
      formatted = by_name [] sheets (map (formatted_at s bytes) offsets);
      identifiers = identifiers;
      codes = codes;
    }
