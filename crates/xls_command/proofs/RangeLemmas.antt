-- The range of the cells that were made.
use Rattle.std.proofs.Common.{◌≡◌, ℕ, zero, suc, ◌+◌, ◌*◌, ◌/◌, ◌%◌, ◌<◌, ◌≤◌, Bool, true, false, List, [], ◌∷◌, map, length, refl, sym, ap, subst, ◌∙◌, arith, inl, inr, Option, Some, None}
use Rattle.std.specs.Prelude.{pos, codes, slice_get, ◌==◌, ◌&&◌, if◌then◌else◌}
use Rattle.std.specs.Option.{option_or, option_map}
use Rattle.std.specs.List.{flat_map, range_with_len, AllByRecursion}
use Rattle.std.proofs.lemmas.Bool.{cases_eq}
use Rattle.std.proofs.lemmas.List.{length-map}
use Rattle.xls_data.specs.Content.{Content, int, text}
use Rattle.xls_data.specs.Data.{content_of, is_nothing}
use Rattle.xls_data.specs.declared.values.Data.{Data}
use Rattle.xls_data.specs.contracts.values.DataPartialEq.TheImpl as data_impl
use Rattle.xls_data.proofs.EqualityLemmas.{data_decides}
use Rattle.xls_range.specs.Grid.{Grid, IsOfCorners, IsCopyOf, cell_at}
use Rattle.xls_range.specs.Grid as grid
use Rattle.xls_range.specs.Sparse.{last_at}
use Rattle.xls_range.proofs.CellLemmas.{cell_at_index}
use Rattle.xls_range.specs.Positions.{Position}
use Rattle.xls_biff.specs.Cells.{CellEntry}
use Rattle.xls_open.specs.Workbook.{cell_content, view_named, Workbook}
use Rattle.xls_data.specs.declared.regions.HeaderRow.TheVariants.{FirstNonEmptyRow}
use Rattle.xls_meaning.specs.Reading.{SheetView}
use Rattle.xls_open.specs.Opening.{default_options, IsOpened}
use Rattle.xls_book.specs.LookUps.{IsBox, IsRangeOf}
use Rattle.xls_open.specs.declared.options.XlsOptions.{XlsOptions}
use Rattle.xls_command.specs.Sample.{sample_word, row_cells, sample_cells, sample_view, sample_stream, sample_contents, used_in, sum_of_ints, IsNatural, IsSampleRange}
use Rattle.xls_open.proofs.AscendingLemmas.{none_before}
use Rattle.xls_command.proofs.ReadLemmas.{rows_after, opens}
use Rattle.xls_command.proofs.CornerLemmas.{corners}
use Rattle.xls_command.proofs.SumLemmas.{contents_from, contents_length, all_natural, sample_sum, used_contents}

-- ---- the value at each position

-- the cells of rows from one on
abbrev from : ℕ → ℕ → List CellEntry
from a n = flat_map row_cells (range_with_len a n)

-- the content in a column of a row
abbrev value_in : ℕ → ℕ → Content
value_in i zero = int (pos i)
value_in i (suc column) = text (sample_word i)

-- a number passes the test with itself
here : (a : ℕ) → (a == a) ≡ true
here a = grind arith

-- the first row has its values in both columns
first_row : (a column : ℕ) (rest : List CellEntry) → column < 2 → last_at rest (a, column) ≡ None
    → last_at (((a, 0), int (pos a)) ∷ ((a, 1), text (sample_word a)) ∷ rest) (a, column) ≡ Some (value_in a column)
first_row a zero rest h none = let t : (a == a) ≡ true = here a in rw (none, t) refl
first_row a (suc zero) rest h none = let t : (a == a) ≡ true = here a in rw (none, t) refl
first_row a (suc (suc column)) rest h none = absurd (omega arith)

-- so has each row
last_there : (a n i column : ℕ) → a ≤ i → i < a + n → column < 2
    → last_at (from a n) (i, column) ≡ Some (value_in i column)
last_there a zero i column low high h = absurd (omega arith)
last_there a (suc n) i column low high h =
    elim (cases_eq i a) [
      | inl e ↦ (
          subst (λ (k : ℕ). last_at (from a (suc n)) (k, column) ≡ Some (value_in k column)) (sym e)
          (first_row a column (from (a + 1) n) h (none_before (a, column) (from (a + 1) n) (rows_after a column (a + 1) n (omega arith)))))
      | inr other ↦ (
          let rest : last_at (from (a + 1) n) (i, column) ≡ Some (value_in i column) =
          last_there (a + 1) n i column (omega arith) (omega arith) h in
          rw rest refl)
    ]

-- ---- by contents

-- the content of the value that is given last
by_content : (cells : List (Position × Data)) (p : Position)
    → last_at (map cell_content cells) p ≡ option_map content_of (last_at cells p)
by_content [] p = refl
by_content (x ∷ xs) p = rw (by_content xs p) (both (last_at xs p) (x.0.0 == p.0 && x.0.1 == p.1))
  where
    both : (o : Option Data) (b : Bool)
        → option_or (option_map content_of o) (if b then Some (content_of x.1) else None) ≡ option_map content_of (option_or o (if b then Some x.1 else None))
    both (Some y) b = refl
    both None true = refl
    both None false = refl

-- a copy has the content that was given
copy_content : (o : Option Data) (y : Data) (c : Content) → option_map content_of o ≡ Some c
    → IsCopyOf data_impl.ghosts.eq is_nothing o y → content_of y ≡ c
copy_content None y c e h = absurd cc
copy_content (Some x) y c e h =
    let same : content_of x ≡ content_of y = (data_decides x y).0 h in
    let value : content_of x ≡ c = cc in
    sym same ∙ value

-- cells with a content in each column of each row have the contents that were made
each_content : (n a : ℕ) (ys : List Data) → length ys ≡ n * 2
    → ((k : ℕ) (y : Data) → slice_get ys k ≡ Some y → content_of y ≡ value_in (a + k / 2) (k % 2))
    → map content_of ys ≡ contents_from a n
each_content zero a [] l h = refl
each_content zero a (y ∷ ys) l h = absurd (omega arith)
each_content (suc n) a [] l h = absurd (omega arith)
each_content (suc n) a (y ∷ []) l h = absurd (omega arith)
each_content (suc n) a (y ∷ z ∷ ys) l h =
    let first : content_of y ≡ int (pos a) = h 0 y refl ∙ ap (λ (k : ℕ). int (pos k)) (zero_more a) in
    let second : content_of z ≡ text (sample_word a) = h 1 z refl ∙ ap (λ (k : ℕ). text (sample_word k)) (zero_more a) in
    ap (λ (c : Content). c ∷ content_of z ∷ map content_of ys) first
    ∙ ap (λ (c : Content). int (pos a) ∷ c ∷ map content_of ys) second
    ∙ ap (λ (cs : List Content). int (pos a) ∷ text (sample_word a) ∷ cs) (each_content n (a + 1) ys (omega arith) later)
  where
    zero_more : (a : ℕ) → a + 0 ≡ a
    zero_more a = omega arith

    later : (k : ℕ) (x : Data) → slice_get ys k ≡ Some x → content_of x ≡ value_in (a + 1 + k / 2) (k % 2)
    later k x e =
        let row : a + suc (suc k) / 2 ≡ a + 1 + k / 2 = omega arith in
        let column : suc (suc k) % 2 ≡ k % 2 = omega arith in
        h (suc (suc k)) x e ∙ ap (λ (r : ℕ). value_in r (suc (suc k) % 2)) row ∙ ap (λ (c : ℕ). value_in (a + 1 + k / 2) c) column

-- a place with an element is below the length
within : (ys : List Data) (k : ℕ) (y : Data) → slice_get ys k ≡ Some y → k < length ys
within [] k y e = absurd cc
within (x ∷ ys) zero y e = omega arith
within (x ∷ ys) (suc k) y e = omega (arith, within ys k y e)

-- 0 before a number
zero_prefix : (n : ℕ) → 0 + n ≡ n
zero_prefix n = omega arith

-- a place of so many rows is in one of them
row_below : (k m : ℕ) → k < suc m * 2 → 0 + k / 2 < 0 + suc m
row_below k m h = omega arith

-- ---- the range

-- the cells of the range contain what was made
pub range_contents : (m : ℕ) (cells : List (Position × Data)) (g : Grid Data) → grid.IsRange g
    → map cell_content cells ≡ sample_cells (suc m) → g.top ≡ 0 → g.left ≡ 0 → g.height ≡ suc m → g.width ≡ 2
    → grid.Shows data_impl.ghosts.eq is_nothing (λ row column. last_at cells (row, column)) g
    → map content_of g.cells ≡ sample_contents (suc m)
range_contents m cells g is e top left height width shows =
    each_content (suc m) 0 g.cells count each
  where
    count : length g.cells ≡ suc m * 2
    count = is.count ∙ ap (λ (h : ℕ). h * g.width) height ∙ ap (λ (w : ℕ). suc m * w) width

    each : (k : ℕ) (y : Data) → slice_get g.cells k ≡ Some y → content_of y ≡ value_in (0 + k / 2) (k % 2)
    each k y s =
        let p : Position = (0 + k / 2, k % 2) in
        let low : k < length g.cells = within g.cells k y s in
        let few : k < suc m * 2 = subst (λ (n : ℕ). k < n) count low in
        let near : k < g.height * g.width = subst (λ (n : ℕ). k < n) is.count low in
        let row : g.top + k / g.width ≡ 0 + k / 2 =
        ap (λ (t : ℕ). t + k / g.width) top ∙ ap (λ (w : ℕ). 0 + k / w) width in
        let column : g.left + k % g.width ≡ k % 2 =
        ap (λ (l : ℕ). l + k % g.width) left ∙ ap (λ (w : ℕ). 0 + k % w) width ∙ zero_prefix (k % 2) in
        let at : cell_at g (0 + k / 2) (k % 2) ≡ Some y =
        ap (λ (r : ℕ). cell_at g r (k % 2)) (sym row)
        ∙ ap (λ (c : ℕ). cell_at g (g.top + k / g.width) c) (sym column)
        ∙ cell_at_index g k near (omega arith) ∙ s in
        let value : option_map content_of (last_at cells p) ≡ Some (value_in (0 + k / 2) (k % 2)) =
        sym (by_content cells p) ∙ ap (λ (cs : List CellEntry). last_at cs p) e
        ∙ last_there 0 (suc m) (0 + k / 2) (k % 2) (omega arith) (row_below k m few) (omega arith) in
        copy_content (last_at cells p) y (value_in (0 + k / 2) (k % 2)) value (shows.displayed (0 + k / 2) (k % 2) y at)

-- the box of the cells is the range that was made
pub sample_box : (m : ℕ) (g : Grid Data) → grid.IsRange g
    → IsBox data_impl.ghosts.eq is_nothing (sample_cells (suc m)) g → IsSampleRange is_nothing (suc m) g
sample_box m g is box =
    let c = box.dense.corners (0, 0) (m, 1) (corners m box.cells box.contents) in
    let top : g.top ≡ 0 = c.top in
    let left : g.left ≡ 0 = c.left in
    let bottom = c.bottom in
    let right = c.right in
    let height : g.height ≡ suc m = omega arith in
    let width : g.width ≡ 2 = omega arith in
    let all = range_contents m box.cells g is box.contents top left height width box.dense.shows in
    let used = used_contents (suc m) g.width g.cells all in
    record {
      top = top;
      left = left;
      height = height;
      width = width;
      contents = used;
      naturals = subst (λ (cs : List Content). AllByRecursion IsNatural cs) (sym used) (all_natural 0 (suc m));
      count = sym (length-map (used_in is_nothing g) (λ (c : ℕ × ℕ × Data). content_of c.2))
          ∙ ap length used ∙ contents_length 0 (suc m);
      sum = ap sum_of_ints used ∙ sample_sum (suc m);
    }

-- so is the range under no header row
pub sample_range : (n : ℕ) → 1 ≤ n → (g : Grid Data) → grid.IsRange g
    → IsRangeOf data_impl.ghosts.eq is_nothing FirstNonEmptyRow (sample_cells n) g → IsSampleRange is_nothing n g
sample_range zero h g is r = absurd (omega arith)
sample_range (suc m) h g is r =
    sample_box m g is (subst (IsBox data_impl.ghosts.eq is_nothing (sample_cells (suc m))) (sym r.2) r.1)

-- and the range of what an opened workbook shows
pub sample_shows : (n : ℕ) → 1 ≤ n → n ≤ 65536 → (book : Workbook)
    → IsOpened default_options book (sample_stream n) → (view : SheetView)
    → view_named book (codes "G") ≡ Some view → (g : Grid Data) → grid.IsRange g
    → IsRangeOf data_impl.ghosts.eq is_nothing book.options.header_row view.cells g
    → IsSampleRange is_nothing n g
sample_shows n low high book o view named g is r =
    let sample = opens n high book o in
    let some : Some view ≡ Some (sample_view n) = sym named ∙ sample.displayed in
    let same : view ≡ sample_view n = cc in
    let plain : IsRangeOf data_impl.ghosts.eq is_nothing FirstNonEmptyRow view.cells g =
    subst (λ (options : XlsOptions). IsRangeOf data_impl.ghosts.eq is_nothing options.header_row view.cells g) sample.options r in
    sample_range n low g is (subst (λ (v : SheetView). IsRangeOf data_impl.ghosts.eq is_nothing FirstNonEmptyRow v.cells g) same plain)
