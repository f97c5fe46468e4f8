-- What the records that are left give, after each step.
use Rattle.std.proofs.Common.{◌≡◌, ℕ, zero, suc, ◌+◌, ◌-◌, ◌<◌, take, List, [], ◌∷◌, ◌++◌, map, refl, sym, ap, subst, ◌∙◌, arith, Option, Some, Result, Ok}
use Rattle.std.specs.Prelude.{unwrap_or, slice_get}
use Rattle.std.specs.List.{AllByRecursion, range_with_len}
use Rattle.xls_stream.specs.Stream.{Group}
use Rattle.xls_stream.specs.Walks.{IsBytes}
use Rattle.xls_stream.specs.Listing.{Kept, kept_group}
use Rattle.xls_record.specs.declared.error.XlsError.{XlsError}
use Rattle.xls_biff.specs.Cells.{CellEntry, Position}
use Rattle.xls_biff.specs.Outer.{Keeps, Over, CutShort}
use Rattle.xls_biff.specs.SheetTable.{SheetRecord, formula_position, position_in}
use Rattle.xls_meaning.specs.Settings.{Settings}
use Rattle.xls_meaning.specs.SheetTable.{adds, yield_at, kept_line}
use Rattle.xls_meaning.specs.Reading.{yield_of}
use Rattle.xls_record.specs.Reading.{gives}
use Rattle.xls_open.proofs.PartLemmas.{keeps_bytes}
use Rattle.xls_data.specs.declared.regions.Dimensions.{Dimensions}
use Rattle.xls_meaning.specs.Order.{somes}
use Rattle.xls_meaning.proofs.OrderLemmas.{somes-append}
use Rattle.xls_view.specs.Formulas.{Formula, formula_of, formulas_kept}
use Rattle.xls_view.specs.SheetContents.{IsReadable, cells_after, kept_in, moved, regions_at, regions_of}
use Rattle.xls_view.specs.Formats.{FormattedCell, FormulaPlace, formatted_after, formula_after, with_formats, xf_in}
use Rattle.xls_view.specs.Walking.{IsSoundPart, Left}
use Rattle.xls_view.proofs.WalkLemmas.{kept_next, kept_over, kept_cut, kept_nothing}

-- ---- one more record

module _ (s : Settings) (before : Left) (g : Group) (after : Left) (sound : IsSoundPart s before) (k : Keeps before.0 before.1 g after.0 after.1) where
  left_is : kept_in before.0 before.1 ≡ kept_group g ∷ kept_in after.0 after.1
  left_is = kept_next before.0 before.1 g after.0 after.1 sound.0 k

  both : AllByRecursion (IsReadable s.cells) (kept_group g ∷ kept_in after.0 after.1)
  both = subst (AllByRecursion (IsReadable s.cells)) left_is sound.1

  pub sound_next : IsSoundPart s after
  sound_next = (keeps_bytes before.0 before.1 g after.0 after.1 k sound.0, both.1)

  -- the line of the record
  pub line_next : IsReadable s.cells (kept_group g)
  line_next = both.0

  record_gives : (at : Position) (line : SheetRecord) → kept_line s.cells (kept_group g) ≡ Ok line
      → (yield_of (yield_at s at (kept_group g))).cells ≡ (adds s.formulas at line).cells
  record_gives at line e = ap (λ (r : Result SheetRecord XlsError). (yield_of (gives (adds s.formulas at) r)).cells) e

  -- what the code found in it, and where it went on
  pub cells_next : (at following : Position) (cells : List CellEntry)
      → ((line : SheetRecord) → kept_line s.cells (kept_group g) ≡ Ok line → cells ≡ (adds s.formulas at line).cells)
      → ((line : SheetRecord) → kept_line s.cells (kept_group g) ≡ Ok line → following ≡ unwrap_or (formula_position line) at)
      → cells_after s at (kept_in before.0 before.1) ≡ cells ++ cells_after s following (kept_in after.0 after.1)
  cells_next at following cells gives_it moves =
      let line = line_next.0 in
      let is = line_next.1 in
      ap (cells_after s at) left_is
      ∙ ap (λ (l : List CellEntry). l ++ cells_after s (moved s.cells at (kept_group g)) (kept_in after.0 after.1)) (record_gives at line is ∙ sym (gives_it line is))
      ∙ ap (λ (p : Position). cells ++ cells_after s p (kept_in after.0 after.1))
      (ap (λ (r : Result SheetRecord XlsError). unwrap_or (position_in r) at) is ∙ sym (moves line is))

  -- likewise with the XF indices
  pub formatted_next : (last following : FormulaPlace) (cells : List FormattedCell)
      → ((line : SheetRecord) → kept_line s.cells (kept_group g) ≡ Ok line
      → cells ≡ with_formats (xf_in last.1 (kept_group g)) 0 (adds s.formulas last.0 line).cells)
      → ((line : SheetRecord) → kept_line s.cells (kept_group g) ≡ Ok line → following ≡ formula_after s.cells last (kept_group g))
      → formatted_after s last (kept_in before.0 before.1) ≡ cells ++ formatted_after s following (kept_in after.0 after.1)
  formatted_next last following cells gives_it moves =
      let line = line_next.0 in
      let is = line_next.1 in
      ap (formatted_after s last) left_is
      ∙ ap (λ (l : List FormattedCell). l ++ formatted_after s (formula_after s.cells last (kept_group g)) (kept_in after.0 after.1))
      (ap (with_formats (xf_in last.1 (kept_group g)) 0) (record_gives last.0 line is) ∙ sym (gives_it line is))
      ∙ ap (λ (p : FormulaPlace). cells ++ formatted_after s p (kept_in after.0 after.1)) (sym (moves line is))

-- ---- the end

-- the bytes that are left have no more records
pub over_sound : (s : Settings) (before : Left) → IsSoundPart s before → Over before.0 before.1 → kept_in before.0 before.1 ≡ []
over_sound s before sound o = kept_over before.0 before.1 sound.0 o

pub cut_sound : (s : Settings) (before : Left) (e : XlsError) → IsSoundPart s before → CutShort before.0 before.1 e → kept_in before.0 before.1 ≡ []
cut_sound s before e sound c = kept_cut before.0 before.1 e sound.0 c

pub nothing_left : (s : Settings) (after : Left) → after.0 ≡ [] → (kept_in after.0 after.1 ≡ []) × IsSoundPart s after
nothing_left s after e =
    let none : kept_in after.0 after.1 ≡ [] = ap (λ (x : List ℕ). kept_in x after.1) e ∙ kept_nothing after.1 in
    (none, (subst IsBytes (sym e) (λ i. omega arith), subst (AllByRecursion (IsReadable s.cells)) (sym none) tt))

pub no_cells : (s : Settings) (before : Left) (at : Position) → kept_in before.0 before.1 ≡ [] → cells_after s at (kept_in before.0 before.1) ≡ []
no_cells s before at e = ap (cells_after s at) e

pub no_formatted : (s : Settings) (before : Left) (last : FormulaPlace) → kept_in before.0 before.1 ≡ [] → formatted_after s last (kept_in before.0 before.1) ≡ []
no_formatted s before last e = ap (formatted_after s last) e

-- ---- the cells of a run

pub run_more : {X : Type 0} (f : ℕ → X) (next count : ℕ) → next < count
    → map f (range_with_len next (count - next)) ≡ f next ∷ map f (range_with_len (next + 1) (count - (next + 1)))
run_more {X} f next count l =
    let more : count - next ≡ suc (count - (next + 1)) = omega (arith, l) in
    ap (λ (n : ℕ). map f (range_with_len next n)) more

-- ---- lists with one more

pub take_next : {X : Type 0} (xs ys : List X) (i : ℕ) (x : X) → ys ≡ take i xs → slice_get xs i ≡ Some x
    → ys ++ x ∷ [] ≡ take (i + 1) xs
take_next [] ys i x e h = absurd cc
take_next (z ∷ xs) ys zero x e h =
    let same : z ≡ x = cc in ap (λ (l : List _). l ++ x ∷ []) e ∙ ap (λ y. y ∷ []) (sym same)
take_next (z ∷ xs) ys (suc i) x e h =
    let next : suc i + 1 ≡ suc (i + 1) = omega arith in
    ap (λ l. l ++ x ∷ []) e ∙ ap (λ l. z ∷ l) (take_next xs (take i xs) i x refl h) ∙ sym (ap (λ (n : ℕ). take n (z ∷ xs)) next)

-- ---- formulas and regions

pub formulas_next : (before : Left) (g : Group) (after : Left) → IsBytes before.0 → Keeps before.0 before.1 g after.0 after.1
    → (o : Option Formula) → o ≡ formula_of (kept_group g)
    → formulas_kept (kept_in before.0 before.1) ≡ somes (o ∷ []) ++ formulas_kept (kept_in after.0 after.1)
formulas_next before g after fits k o e =
    ap formulas_kept (kept_next before.0 before.1 g after.0 after.1 fits k)
    ∙ somes-append (formula_of (kept_group g) ∷ []) (map formula_of (kept_in after.0 after.1))
    ∙ ap (λ (p : Option Formula). somes (p ∷ []) ++ formulas_kept (kept_in after.0 after.1)) (sym e)

pub regions_next : (before : Left) (g : Group) (after : Left) → IsBytes before.0 → Keeps before.0 before.1 g after.0 after.1
    → (rs : List Dimensions) → rs ≡ regions_at (kept_group g)
    → regions_of (kept_in before.0 before.1) ≡ rs ++ regions_of (kept_in after.0 after.1)
regions_next before g after fits k rs e =
    ap regions_of (kept_next before.0 before.1 g after.0 after.1 fits k)
    ∙ ap (λ (l : List Dimensions). l ++ regions_of (kept_in after.0 after.1)) (sym e)

-- what no records have
pub none_over : {X : Type 0} (f : List Kept → List X) → f [] ≡ [] → (before : Left) → IsBytes before.0 → Over before.0 before.1
    → f (kept_in before.0 before.1) ≡ []
none_over f h before fits o = ap f (kept_over before.0 before.1 fits o) ∙ h

pub none_cut : {X : Type 0} (f : List Kept → List X) → f [] ≡ [] → (before : Left) (e : XlsError) → IsBytes before.0 → CutShort before.0 before.1 e
    → f (kept_in before.0 before.1) ≡ []
none_cut f h before e fits c = ap f (kept_cut before.0 before.1 e fits c) ∙ h

pub none_left : {X : Type 0} (f : List Kept → List X) → f [] ≡ [] → (after : Left) → after.0 ≡ [] → f (kept_in after.0 after.1) ≡ []
none_left f h after e = ap (λ (x : List ℕ). f (kept_in x after.1)) e ∙ ap f (kept_nothing after.1) ∙ h

-- bytes that are left are bytes
pub left_bytes : (before : Left) (g : Group) (after : Left) → IsBytes before.0 → Keeps before.0 before.1 g after.0 after.1 → IsBytes after.0
left_bytes before g after fits k = keeps_bytes before.0 before.1 g after.0 after.1 k fits
