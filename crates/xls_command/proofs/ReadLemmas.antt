-- What the list says of a workbook.
use Rattle.std.proofs.Common.{◌≡◌, ℕ, zero, suc, ◌+◌, ◌<◌, ◌≤◌, List, [], ◌∷◌, ◌++◌, map, refl, ap, ◌∙◌, false, Result, lit<, arith, inl, inr}
use Rattle.std.specs.Prelude.{codes, pos}
use Rattle.std.specs.Char.Utf16.{utf16_chars}
use Rattle.std.specs.List.{flat_map, range_with_len, AllByRecursion, AllZip}
use Rattle.xls_stream.specs.Listing.{Kept}
use Rattle.xls_data.specs.Content.{int, text}
use Rattle.xls_data.specs.Sheets.{SheetContent}
use Rattle.xls_range.specs.Sparse.{last_at, Precedes, IsAscending}
use Rattle.xls_biff.specs.Cells.{CellEntry}
use Rattle.xls_biff.specs.SheetTable.{CellContext, SheetRecord}
use Rattle.xls_record.specs.Reading.{gives}
use Rattle.xls_record.specs.declared.error.XlsError.{XlsError}
use Rattle.xls_meaning.specs.Order.{map_with_earlier}
use Rattle.xls_meaning.specs.Settings.{sheets_of, cells_of, Settings, settings_of, classes_in, texts_in, is_1904_in}
use Rattle.xls_meaning.specs.SheetTable.{FormulaEntry, Yield, one_cell, adds, yield_in, last_formula}
use Rattle.xls_meaning.specs.Reading.{SheetView, IsReading, IsContent, IsDisplayed, yield_of, yields_of, values_of, formulas_of, merges_of, last_named, paired}
use Rattle.xls_open.specs.Workbook.{Workbook, view_of}
use Rattle.xls_open.specs.Opening.{default_options, default_rules, IsOpened}
use Rattle.xls_open.proofs.SameLemmas.{same_view}
use Rattle.xls_command.specs.Sample.{sample_word, sample_stream, sample_list, kept_row, sample_kept, sample_strings, row_cells, sample_cells, sample_head, sample_view, IsSample}
use Rattle.xls_command.proofs.LayoutLemmas.{carries}
use Rattle.xls_open.proofs.AscendingLemmas.{same_cells}
use Rattle.xls_command.proofs.YieldLemmas.{int_kept, word_kept, int_line, word_line}

-- ---- the globals

-- one sheet, with its records
sheets : (n : ℕ) → sheets_of default_rules (sample_list n) ≡ (sample_head, sample_kept n) ∷ []
sheets n = refl

-- no class of a format
classes : (n : ℕ) → classes_in default_rules (sample_list n) ≡ []
classes n = refl

-- the texts of the shared strings
strings : (n : ℕ) → texts_in default_rules (sample_list n) ≡ sample_strings
unfolding utf16_chars
strings n = refl

-- the date system of 1900
epoch : (n : ℕ) → is_1904_in default_rules (sample_list n) ≡ false
epoch n = refl

-- ---- the gifts of the rows

-- what the two records of a row give
abbrev row_yields : ℕ → List Yield
row_yields i = one_cell ((i, 0), int (pos i)) ∷ one_cell ((i, 1), text (sample_word i)) ∷ []

-- a number that a row can have
abbrev pub IsRow : ℕ → Type 0
IsRow i = i < 65536

-- the numbers of so many rows
pub rows_below : (a n : ℕ) → a + n ≤ 65536 → AllByRecursion IsRow (range_with_len a n)
rows_below a zero h = tt
rows_below a (suc n) h = (omega arith, rows_below (a + 1) n (omega arith))

-- cells are read under no class, these strings, and the date system of 1900
pub record IsSet (c : CellContext) : Type 0 where
  pub classes : c.classes ≡ []
  pub strings : c.strings ≡ sample_strings
  pub epoch : c.is_1904 ≡ false

-- the records of the rows give these, whatever stands before them
yields_over : (s : Settings) → IsSet s.cells → (is : List ℕ) (before : List Kept) → AllByRecursion IsRow is
    → map yield_of (map_with_earlier (yield_in s) before (flat_map kept_row is)) ≡ flat_map row_yields is
yields_over s f [] before h = refl
yields_over s f (i ∷ is) before h =
    let middle = before ++ int_kept i ∷ [] in
    let after = middle ++ word_kept i ∷ [] in
    let others = map yield_of (map_with_earlier (yield_in s) after (flat_map kept_row is)) in
    let added : List Kept → Result SheetRecord XlsError → Yield =
    λ (ks : List Kept) (r : Result SheetRecord XlsError). yield_of (gives (adds s.formulas (last_formula s.cells ks)) r) in
    ap (λ (r : Result SheetRecord XlsError). added before r ∷ yield_of (yield_in s middle (word_kept i)) ∷ others) (int_line s.cells i h.0 f.classes f.epoch)
    ∙ ap (λ (r : Result SheetRecord XlsError). one_cell ((i, 0), int (pos i)) ∷ added middle r ∷ others) (word_line s.cells i f.strings)
    ∙ ap (λ (gs : List Yield). one_cell ((i, 0), int (pos i)) ∷ one_cell ((i, 1), text (sample_word i)) ∷ gs) (yields_over s f is after h.1)

-- the cells among the gifts
rows_cells : (is : List ℕ)
    → flat_map (λ (g : Yield). g.cells) (flat_map row_yields is) ≡ flat_map row_cells is
rows_cells [] = refl
rows_cells (i ∷ is) =
    ap (λ (cs : List CellEntry). ((i, 0), int (pos i)) ∷ ((i, 1), text (sample_word i)) ∷ cs) (rows_cells is)

-- no formula
rows_formulas : (is : List ℕ) → flat_map (λ (g : Yield). g.formulas) (flat_map row_yields is) ≡ []
rows_formulas [] = refl
rows_formulas (i ∷ is) = rows_formulas is

-- no merged region
rows_regions : (is : List ℕ) → flat_map (λ (g : Yield). g.regions) (flat_map row_yields is) ≡ []
rows_regions [] = refl
rows_regions (i ∷ is) = rows_regions is

-- ---- the cells are in order

-- where a cell stands
abbrev at : CellEntry → ℕ × ℕ
at c = c.0

-- later rows come after a position
pub rows_after : (row column a n : ℕ) → row < a
    → AllByRecursion (Precedes (row, column)) (map at (flat_map row_cells (range_with_len a n)))
rows_after row column a zero h = tt
rows_after row column a (suc n) h = (inl h, (inl h, rows_after row column (a + 1) n (omega arith)))

-- the rows come in order
pub rows_ascend : (a n : ℕ) → IsAscending (map at (flat_map row_cells (range_with_len a n)))
rows_ascend a zero = tt
rows_ascend a (suc n) = (
  (inr (refl, lit< tt), rows_after a 0 (a + 1) n (omega arith)),
  (rows_after a 1 (a + 1) n (omega arith), rows_ascend (a + 1) n),
)

-- ---- the content

-- those of the list are
pub is_set : (n : ℕ) → IsSet (cells_of default_rules (sample_list n))
is_set n = record { classes = classes n; strings = strings n; epoch = epoch n }

-- the content of the sheet is what was made
content : (n : ℕ) → n ≤ 65536 → (v : SheetView)
    → IsContent (settings_of default_rules (sample_list n)) (sample_kept n) v → v ≡ sample_view n
content n h v c =
    let s = settings_of default_rules (sample_list n) in
    let is = range_with_len 0 n in
    let yields : yields_of s (sample_kept n) ≡ flat_map row_yields is =
    yields_over s (is_set n) is [] (rows_below 0 n (omega arith)) in
    let values : values_of s (sample_kept n) ≡ sample_cells n =
    ap (flat_map (λ (g : Yield). g.cells)) yields ∙ rows_cells is in
    let formulas : formulas_of s (sample_kept n) ≡ [] =
    ap (flat_map (λ (g : Yield). g.formulas)) yields ∙ rows_formulas is in
    let merges : merges_of s (sample_kept n) ≡ [] =
    ap (flat_map (λ (g : Yield). g.regions)) yields ∙ rows_regions is in
    same_view v (sample_view n)
    (same_cells v.cells (sample_cells n) c.ascending (rows_ascend 0 n) (λ p. c.last p ∙ ap (λ (cs : List CellEntry). last_at cs p) values))
    (same_cells v.formulas [] c.formulas_ascending tt (λ p. c.last_formulas p ∙ ap (λ (cs : List FormulaEntry). last_at cs p) formulas))
    (c.merges ∙ merges)

-- ---- the workbook

-- it is the one content
contents : (n : ℕ) → n ≤ 65536 → (views : List SheetView)
    → AllZip (IsDisplayed (settings_of default_rules (sample_list n)) (sheets_of default_rules (sample_list n))) views (sheets_of default_rules (sample_list n))
    → views ≡ sample_view n ∷ []
contents n h [] a = absurd a
contents n h (v ∷ []) a = ap (λ (w : SheetView). w ∷ []) (content n h v a.0)
contents n h (v ∷ w ∷ views) a = absurd a.1

-- each reading is the workbook that was made
pub reading : (n : ℕ) → n ≤ 65536 → (book : Workbook) → book.options ≡ default_options
    → IsReading default_rules (sample_list n) (view_of book) → IsSample n book
reading n h book kept r =
    let heads : book.sheets ≡ sample_head ∷ [] = r.sheets in
    let views : book.contents ≡ sample_view n ∷ [] = contents n h book.contents r.contents in
    record {
      options = kept;
      sheets = heads;
      contents = views;
      displayed = ap (λ (ss : List SheetContent). last_named (paired ss book.contents) (codes "G")) heads
          ∙ ap (λ (vs : List SheetView). last_named (paired (sample_head ∷ []) vs) (codes "G")) views;
    }

-- and each workbook that is opened
pub opens : (n : ℕ) → n ≤ 65536 → (book : Workbook)
    → IsOpened default_options book (sample_stream n) → IsSample n book
opens n h book o = reading n h book o.kept (o.every (sample_list n) (carries n))
