-- A list has at most one reading, so streams that carry one list give one workbook.
use Rattle.std.proofs.Common.{◌≡◌, List, [], ◌∷◌, Bool, refl, sym, ap, ◌∙◌}
use Rattle.std.specs.Prelude.{ℕ}
use Rattle.std.specs.List.{AllZip}
use Rattle.xls_stream.specs.Listing.{Kept, Carries}
use Rattle.xls_stream.specs.Listing as listing
use Rattle.xls_data.specs.Sheets.{SheetContent}
use Rattle.xls_data.specs.declared.regions.Dimensions.{Dimensions}
use Rattle.xls_dates.specs.declared.formats.CellFormat.{CellFormat}
use Rattle.xls_biff.specs.Cells.{CellEntry}
use Rattle.xls_meaning.specs.Settings.{Settings, settings_of, SheetRecords, sheets_of}
use Rattle.xls_meaning.specs.SheetTable.{FormulaEntry}
use Rattle.xls_meaning.specs.Reading.{SheetView, IsContent, IsDisplayed, IsReading}
use Rattle.xls_meaning.specs.Rules.{Rules}
use Rattle.xls_open.specs.Workbook.{Workbook, rules_of, view_of}
use Rattle.xls_open.specs.Opening.{IsOpened}
use Rattle.xls_open.specs.declared.options.XlsOptions.{XlsOptions}
use Rattle.xls_open.proofs.AscendingLemmas.{same_cells}

-- ---- views

-- views with equal parts are equal
pub same_view : (v w : SheetView) → v.cells ≡ w.cells → v.formulas ≡ w.formulas → v.merges ≡ w.merges
    → v ≡ w
same_view v w c f m =
    let built : List CellEntry → List FormulaEntry → List Dimensions → SheetView =
    λ cells formulas merges. record { cells = cells; formulas = formulas; merges = merges } in
    ap (λ x. built x v.formulas v.merges) c ∙ ap (λ x. built w.cells x v.merges) f
    ∙ ap (λ x. built w.cells w.formulas x) m

-- kept records have one content
same_content : (s : Settings) (kept : List Kept) (v w : SheetView) → IsContent s kept v → IsContent s kept w → v ≡ w
same_content s kept v w a b =
    same_view v w
    (same_cells v.cells w.cells a.ascending b.ascending (λ p. a.last p ∙ sym (b.last p)))
    (same_cells v.formulas w.formulas a.formulas_ascending b.formulas_ascending (λ p. a.last_formulas p ∙ sym (b.last_formulas p)))
    (a.merges ∙ sym b.merges)

same_contents : (s : Settings) (all qs : List SheetRecords) (vs ws : List SheetView) → AllZip (IsDisplayed s all) vs qs
    → AllZip (IsDisplayed s all) ws qs → vs ≡ ws
same_contents s all [] [] [] a b = refl
same_contents s all [] [] (w ∷ ws) a b = absurd b
same_contents s all [] (v ∷ vs) ws a b = absurd a
same_contents s all (q ∷ qs) [] ws a b = absurd a
same_contents s all (q ∷ qs) (v ∷ vs) [] a b = absurd b
same_contents s all (q ∷ qs) (v ∷ vs) (w ∷ ws) a b =
    ap (λ (x : SheetView). x ∷ vs) (same_content s _ v w a.0 b.0)
    ∙ ap (λ (xs : List SheetView). w ∷ xs) (same_contents s all qs vs ws a.1 b.1)

-- ---- workbooks

-- workbooks with equal parts are equal
same_book : (book second : Workbook) → book.options ≡ second.options → book.sheets ≡ second.sheets
    → book.names ≡ second.names → book.contents ≡ second.contents → book.is_1904 ≡ second.is_1904
    → book.classes ≡ second.classes → book ≡ second
same_book b c o s n v e k =
    let built : XlsOptions → List SheetContent → List (List ℕ × List ℕ) → List SheetView → Bool → List CellFormat → Workbook =
    λ options sheets names contents is_1904 classes.
    record { options = options; sheets = sheets; names = names; contents = contents; is_1904 = is_1904; classes = classes } in
    ap (λ x. built x b.sheets b.names b.contents b.is_1904 b.classes) o
    ∙ ap (λ x. built c.options x b.names b.contents b.is_1904 b.classes) s
    ∙ ap (λ x. built c.options c.sheets x b.contents b.is_1904 b.classes) n
    ∙ ap (λ x. built c.options c.sheets c.names x b.is_1904 b.classes) v
    ∙ ap (λ x. built c.options c.sheets c.names c.contents x b.classes) e
    ∙ ap (λ x. built c.options c.sheets c.names c.contents c.is_1904 x) k

-- two readings of one list
same_reading : (rules : Rules) (entries : List listing.ListEntry) (book second : Workbook) → book.options ≡ second.options
    → IsReading rules entries (view_of book) → IsReading rules entries (view_of second) → book ≡ second
same_reading rules entries book second o a b =
    same_book book second o (a.sheets ∙ sym b.sheets) (a.names ∙ sym b.names)
    (same_contents (settings_of rules entries) (sheets_of rules entries) (sheets_of rules entries) book.contents second.contents a.contents b.contents)
    (a.date_system ∙ sym b.date_system) (a.classes ∙ sym b.classes)

pub same_list_same_book : (options : XlsOptions) (bytes others : List ℕ) (entries : List listing.ListEntry)
    → Carries bytes entries → Carries others entries
    → (book second : Workbook) → IsOpened options book bytes → IsOpened options second others
    → book ≡ second
same_list_same_book options bytes others entries c d book second a b =
    same_reading (rules_of options) entries book second (a.kept ∙ sym b.kept) (a.every entries c) (b.every entries d)
