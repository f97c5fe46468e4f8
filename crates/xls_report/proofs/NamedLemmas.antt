-- The cells of the last sheet of a name.
use Rattle.std.proofs.Common.{◌≡◌, ℕ, List, Option, Some, None, refl, ap}
use Rattle.std.specs.Option.{option_map}
use Rattle.std.specs.Str.{chars}
use Rattle.xls_biff.specs.Cells.{CellEntry}
use Rattle.xls_csv.specs.Dense.{sheet_csv}
use Rattle.xls_meaning.specs.Reading.{BookView, SheetView, displayed_of}
use Rattle.xls_report.specs.Texts.{IsCsvOf}

module _ (name : List ℕ) (book : BookView) (cells : List CellEntry) where
  csv_by : (o : Option SheetView) → displayed_of book (chars name) ≡ o
      → Some cells ≡ option_map (λ (v : SheetView). v.cells) o → IsCsvOf name book (sheet_csv cells)
  csv_by None found e = absurd cc
  csv_by (Some view) found e = let same : cells ≡ view.cells = cc in (view, found, ap sheet_csv same)

  -- the CSV of the cells that are shown
  pub csv_of : Some cells ≡ option_map (λ (v : SheetView). v.cells) (displayed_of book (chars name))
      → IsCsvOf name book (sheet_csv cells)
  csv_of e = csv_by (displayed_of book (chars name)) refl e

-- no cells, so no sheet has the name
pub no_view : (o : Option SheetView) → None ≡ option_map (λ (v : SheetView). v.cells) o → o ≡ None
no_view None e = refl
no_view (Some v) e = cc
