-- Cells as a listing reads them.
use Rattle.std.proofs.Common.{◌≡◌, ℕ, zero, suc, List, [], ◌∷◌, ◌++◌, map, refl, sym, ap, subst, ◌∙◌, Option, Some, None, Result, Ok, Err, OnOk, IsUtf8, codes}
use Rattle.std.specs.Prelude.{slice_get}
use Rattle.std.specs.Option.{option_map}
use Rattle.std.specs.Str.{chars}
use Rattle.std.proofs.lemmas.Str.{chars-nil}
use Rattle.xls_biff.specs.Cells.{CellEntry}
use Rattle.xls_meaning.specs.Reading.{SheetView}
use Rattle.xls_view.specs.Displayed.{DisplayedSheet, sheet_view_of}
use Rattle.xls_view.specs.Formats.{FormattedCell, plain}
use Rattle.xls_view.specs.Viewing.{Viewed}
use Rattle.xls_cell_formats.specs.Contents.{IsContentShown}
use Rattle.xls_output.specs.Added.{AddsText}
use Rattle.xls_readable.specs.Items.{NamedItem, text}
use Rattle.xls_readable.specs.Lines.{IsLine, exact_line}
use Rattle.xls_readable.specs.declared.forms.Form.{Form}
use Rattle.xls_readable.specs.declared.forms.Form.TheVariants.{Exact}
use Rattle.xls_shown.specs.Shown.{Gains}
use Rattle.xls_listing.specs.declared.readings.CellReader.{CellReader}
use Rattle.xls_listing.specs.declared.readings.CellReader.TheVariants.{Recorded, ByCode, Shown}
use Rattle.xls_listing.specs.declared.readings.CellReading.TheVariants as readings
use Rattle.xls_listing.proofs.DisplayedLemmas.{encoded}
use Rattle.xls_listing.specs.Listing.{IsLineOf, Line, ListedSheet, ShownAs, with_shown, book_lines, dump_lines, listed_cell, listed_lines, listed_sheet, listed_sheets, recorded}

-- ---- one sheet

recorded_cells : (cells : List FormattedCell) → map (listed_cell Recorded) cells ≡ map (λ (c : CellEntry). (c, None)) (map plain cells)
recorded_cells [] = refl
recorded_cells (c ∷ cs) = ap (λ (l : List _). (plain c, None) ∷ l) (recorded_cells cs)

-- the cells of a sheet, each read so
pub sheet_cells : (reader : CellReader) (v : SheetView) (cells : List FormattedCell) → map plain cells ≡ v.cells
    → map (listed_cell reader) cells ≡ (listed_sheet reader v cells).cells
sheet_cells Recorded v cells e = recorded_cells cells ∙ ap (map (λ (c : CellEntry). (c, None))) e
sheet_cells (ByCode formats) v cells e = refl
sheet_cells (Shown formats) v cells e = refl

pub sheet_view : (reader : CellReader) (v : SheetView) (cells : List FormattedCell) → (listed_sheet reader v cells).view ≡ v
sheet_view Recorded v cells = refl
sheet_view (ByCode formats) v cells = refl
sheet_view (Shown formats) v cells = refl

-- ---- all sheets

-- what stands at an index, where these stand there
pub sheet_at : (reader : CellReader) (vs : List SheetView) (css : List (List FormattedCell)) (n : ℕ) (v : SheetView) (cells : List FormattedCell)
    → slice_get vs n ≡ Some v → slice_get css n ≡ Some cells → slice_get (listed_sheets reader vs css) n ≡ Some (listed_sheet reader v cells)
sheet_at reader [] css n v cells e f = absurd (let none : None ≡ Some v = e in cc)
sheet_at reader (w ∷ vs) [] n v cells e f = absurd (let none : None ≡ Some cells = f in cc)
sheet_at reader (w ∷ vs) (ds ∷ css) zero v cells e f =
    let same : w ≡ v = cc in
    let so : ds ≡ cells = cc in
    rw (same, so) refl
sheet_at reader (w ∷ vs) (ds ∷ css) (suc n) v cells e f = sheet_at reader vs css n v cells e f

pub no_sheet_at : (reader : CellReader) (vs : List SheetView) (css : List (List FormattedCell)) (n : ℕ)
    → slice_get vs n ≡ None → slice_get (listed_sheets reader vs css) n ≡ None
no_sheet_at reader [] css n e = refl
no_sheet_at reader (v ∷ vs) [] zero e = absurd cc
no_sheet_at reader (v ∷ vs) (cs ∷ css) zero e = absurd cc
no_sheet_at reader (v ∷ vs) [] (suc n) e = no_sheet_at reader vs [] n e
no_sheet_at reader (v ∷ vs) (cs ∷ css) (suc n) e = no_sheet_at reader vs css n e

recorded_sheets : (vs : List SheetView) (css : List (List FormattedCell)) → listed_sheets Recorded vs css ≡ map recorded vs
recorded_sheets [] css = refl
recorded_sheets (v ∷ vs) [] = ap (λ (l : List ListedSheet). recorded v ∷ l) (recorded_sheets vs [])
recorded_sheets (v ∷ vs) (cs ∷ css) = ap (λ (l : List ListedSheet). recorded v ∷ l) (recorded_sheets vs css)

-- a workbook whose cells are read as their records have them has the lines of its dump
pub recorded_is_dump : (view : Viewed) → listed_lines readings.Recorded view ≡ dump_lines view.book
recorded_is_dump view = ap (book_lines view.book) (recorded_sheets view.book.contents view.formatted)

-- ---- what is shown

-- the line with a text that is shown was appended
pub adds_shown : {T E : Type 0} (form : Form) (word : List ℕ) (members : List NamedItem) (s : ShownAs) (bytes old new : List ℕ) (r : Result T E)
    → IsUtf8 bytes → IsContentShown s.code s.is_1904 s.content (chars bytes)
    → OnOk r (AddsText (IsLine form word (members ++ (codes "shown", text bytes) ∷ [])) old new)
    → OnOk r (AddsText (λ out. (displayed : List ℕ) × IsContentShown s.code s.is_1904 s.content displayed × IsLine form word (with_shown members displayed) out) old new)
adds_shown form word members s bytes old new (Ok x) utf8 is (out, line, e) = (
  out,
  (chars bytes, is, subst (λ (b : List ℕ). IsLine form word (members ++ (codes "shown", text b) ∷ []) out) (encoded bytes utf8) line),
  e,
)
adds_shown form word members s bytes old new (Err x) utf8 is p = tt

-- a text that was empty is what is shown
pub shown_alone : (P : List ℕ → Type 0) (empty room : List ℕ) → empty ≡ [] → Gains P (chars empty) (chars room) → P (chars room)
shown_alone P empty room none (shown, is, e) =
    subst P (sym (e ∙ ap (λ (t : List ℕ). t ++ shown) (ap chars none ∙ chars-nil))) is

-- ---- exact lines

pub exact_of : (word : List ℕ) (members : List NamedItem) (shown : Option ShownAs) (out : List ℕ)
    → IsLineOf Exact word members shown out → out ≡ exact_line word members
exact_of word members None out e = e
exact_of word members (Some s) out e = e

pub is_exact : (word : List ℕ) (members : List NamedItem) (shown : Option ShownAs) → IsLineOf Exact word members shown (exact_line word members)
is_exact word members None = refl
is_exact word members (Some s) = refl
