-- Equality of ranges, by their corners and cells.
use Rattle.std.proofs.Common.{◌≡◌, ◌≢◌, ℕ, zero, suc, ◌+◌, ◌-◌, ◌*◌, ◌/◌, ◌%◌, ◌<◌, inl, inr, arith, refl, List, [], ◌∷◌, length, sym, ◌∙◌, ap, Bool, true, false, Option, Some, None}
use Rattle.std.specs.Prelude.{slice_get, ◌&&◌, ◌==◌, if◌then◌else◌}
use Rattle.std.specs.Cmp.Lexicographic.{pointwise}
use Rattle.std.proofs.lemmas.Bool.{cases_eq, ne_eqb, eq-eqb, eqb-true}
use Rattle.xls_range.specs.Grid.{Grid, IsRange, IsSameBox, start_of, end_of, cell_at, is_inside, index_of, grid_eq}
use Rattle.xls_range.specs.Laws.{IsSameCell, AreSame}
use Rattle.xls_range.proofs.CellLemmas.{cell_at_index, wide_from_index}

and_first : (a b : Bool) → (a && b) ≡ true → a ≡ true
and_first true b h = refl
and_first false b h = h

and_second : (a b : Bool) → (a && b) ≡ true → b ≡ true
and_second true b h = h
and_second false b h = cc

and_both : (a b : Bool) → a ≡ true → b ≡ true → (a && b) ≡ true
and_both a b e f = rw (e, f)

slice_get-pointwise : {T : Type 0} (eq : T → T → Bool) (xs ys : List T) → pointwise eq xs ys ≡ true → (i : ℕ) → IsSameCell eq (slice_get xs i) (slice_get ys i)
slice_get-pointwise eq [] [] h i = tt
slice_get-pointwise eq [] (y ∷ ys) h i = cc
slice_get-pointwise eq (x ∷ xs) [] h i = cc
slice_get-pointwise eq (x ∷ xs) (y ∷ ys) h zero = and_first (eq x y) (pointwise eq xs ys) h
slice_get-pointwise eq (x ∷ xs) (y ∷ ys) h (suc i) = slice_get-pointwise eq xs ys (and_second (eq x y) (pointwise eq xs ys) h) i

pub pointwise_from_cells : {T : Type 0} (eq : T → T → Bool) (xs ys : List T) → length xs ≡ length ys → ((i : ℕ) → i < length xs → IsSameCell eq (slice_get xs i) (slice_get ys i)) → pointwise eq xs ys ≡ true
pointwise_from_cells eq [] [] long each = refl
pointwise_from_cells eq [] (y ∷ ys) long each = absurd (omega arith)
pointwise_from_cells eq (x ∷ xs) [] long each = absurd (omega arith)
pointwise_from_cells eq (x ∷ xs) (y ∷ ys) long each =
    and_both (eq x y) (pointwise eq xs ys) (each 0 (omega arith)) (pointwise_from_cells eq xs ys (omega arith) (λ i p. each (suc i) (omega arith)))

same_if : {T : Type 0} (eq : T → T → Bool) (b : Bool) (xs ys : List T) (i : ℕ) → pointwise eq xs ys ≡ true → IsSameCell eq (if b then slice_get xs i else None) (if b then slice_get ys i else None)
same_if eq true xs ys i h = slice_get-pointwise eq xs ys h i
same_if eq false xs ys i h = tt

same_cells : {T : Type 0} (eq : T → T → Bool) (g h : Grid T) → IsSameBox g h → pointwise eq g.cells h.cells ≡ true → (r c : ℕ) → IsSameCell eq (cell_at g r c) (cell_at h r c)
unfolding cell_at
same_cells eq g h same cells r c = rw (same.top, same.left, same.height, same.width) (same_if eq (is_inside g r c) g.cells h.cells (index_of g (r - g.top) (c - g.left)) cells)

pub AreSame-grid_eq : {T : Type 0} (eq : T → T → Bool) (g h : Grid T) → grid_eq eq g h ≡ true → AreSame eq g h
AreSame-grid_eq eq g h e =
    let e1 = and_second (g.top == h.top) _ e in
    let e2 = and_second (g.left == h.left) _ e1 in
    let e3 = and_second (g.height == h.height) _ e2 in
    let top = eqb-true g.top h.top (and_first _ _ e) in
    let left = eqb-true g.left h.left (and_first _ _ e1) in
    let height = eqb-true g.height h.height (and_first _ _ e2) in
    let width = eqb-true g.width h.width (and_first _ _ e3) in
    record {
      start = rw (top, left, height) refl;
      end = rw (top, left, height, width) refl;
      cells = same_cells eq g h (record { top = sym top; left = sym left; height = sym height; width = sym width }) (and_second (g.width == h.width) _ e3);
    }

abbrev pair : ℕ → ℕ → ℕ × ℕ
pair a b = (a, b)

abbrev at_pair : ℕ → ℕ → Option (ℕ × ℕ)
at_pair a b = Some (a, b)

some_pair : (a b c d : ℕ) → at_pair a b ≡ at_pair c d → (a ≡ c) × (b ≡ d)
some_pair a b c d e =
    let same : pair a b ≡ pair c d = cc in
    (ap (λ p. p.0) same, ap (λ p. p.1) same)

-- the corners tell the box
start_of-none : {T : Type 0} (g : Grid T) → g.height ≡ 0 → start_of g ≡ None
start_of-none g e = rw (eq-eqb g.height 0 e)

start_of-some : {T : Type 0} (g : Grid T) → g.height ≢ 0 → start_of g ≡ Some (g.top, g.left)
start_of-some g ne = rw (ne_eqb g.height 0 ne)

end_of-some : {T : Type 0} (g : Grid T) → g.height ≢ 0 → end_of g ≡ Some (g.top + g.height - 1, g.left + g.width - 1)
end_of-some g ne = rw (ne_eqb g.height 0 ne)

pub IsSameBox-corners : {T : Type 0} (g h : Grid T) → IsRange g → IsRange h → start_of g ≡ start_of h → end_of g ≡ end_of h → IsSameBox g h
IsSameBox-corners g h a b start end = elim (cases_eq g.height 0) [
  | inl none ↦ elim (cases_eq h.height 0) [
    | inl also ↦ record {
      top = (b.nowhere also).0 ∙ sym (a.nowhere none).0;
      left = (b.nowhere also).1 ∙ sym (a.nowhere none).1;
      height = also ∙ sym none;
      width = b.hollow also ∙ sym (a.hollow none);
    }
    | inr ne ↦ absurd (let e = sym (start_of-none g none) ∙ start ∙ start_of-some h ne in cc)
  ]
  | inr ne ↦ elim (cases_eq h.height 0) [
    | inl none ↦ absurd (let e = sym (start_of-some g ne) ∙ start ∙ start_of-none h none in cc)
    | inr also ↦
        let first = some_pair g.top g.left h.top h.left (sym (start_of-some g ne) ∙ start ∙ start_of-some h also) in
        let last = some_pair (g.top + g.height - 1) (g.left + g.width - 1) (h.top + h.height - 1) (h.left + h.width - 1) (sym (end_of-some g ne) ∙ end ∙ end_of-some h also) in
        let wide : g.width ≢ 0 = λ e. ne (a.flat e) in
        let broad : h.width ≢ 0 = λ e. also (b.flat e) in
        record { top = sym first.0; left = sym first.1; height = omega (arith, first.0, last.0); width = omega (arith, first.1, last.1) }
  ]
]

pub grid_eq-AreSame : {T : Type 0} (eq : T → T → Bool) (g h : Grid T) → IsRange g → IsRange h → AreSame eq g h → grid_eq eq g h ≡ true
grid_eq-AreSame eq g h a b same =
    let box = IsSameBox-corners g h a b same.start same.end in
    let long : length g.cells ≡ length h.cells = a.count ∙ sym (b.count ∙ (rw (box.height, box.width) refl)) in
    let cells : pointwise eq g.cells h.cells ≡ true = pointwise_from_cells eq g.cells h.cells long (λ i p.
    let near : i < g.height * g.width = omega (arith, a.count) in
    let other : i < h.height * h.width = rw (box.height, box.width) near in
    let wide = wide_from_index g.height g.width i near in
    let broad : 0 < h.width = rw box.width wide in
    let mine = cell_at_index g i near wide in
    let theirs : cell_at h (g.top + i / g.width) (g.left + i % g.width) ≡ slice_get h.cells i = rw (← box.top, ← box.left, ← box.width) (cell_at_index h i other broad) in
    rw (mine, theirs) at (same.cells (g.top + i / g.width) (g.left + i % g.width))) in
    rw (eq-eqb g.top h.top (sym box.top), eq-eqb g.left h.left (sym box.left), eq-eqb g.height h.height (sym box.height), eq-eqb g.width h.width (sym box.width)) cells
