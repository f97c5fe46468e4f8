-- Positions that ascend, by their numbers, and boxes that are widened.
use Rattle.std.proofs.Common.{◌≡◌, ℕ, ◌+◌, ◌*◌, ◌^◌, ◌<◌, List, [], ◌∷◌, ◌++◌, refl, sym, ap, subst, ◌∙◌, arith, Bool, true, false, Some, inl, inr}
use Rattle.std.specs.Prelude.{◌⊎◌, ◌==◌, min, max, nat_lt}
use Rattle.xls_data.specs.declared.regions.Dimensions.{Dimensions}
use Rattle.xls_range.specs.Positions.{IsAscending, Position, Precedes}
use Rattle.xls_view.specs.SheetPlacing.{EndsIn, IsAscent, number_of}
use Rattle.xls_view.specs.Surveying.{IsUnbounded, box_found, widened}
use Rattle.xls_view.specs.declared.ascent.Ascent.{Ascent}
use Rattle.xls_view.specs.declared.survey.FoundCells.{FoundCells}
use Rattle.xls_view.proofs.PlaceLemmas.{ascends_more}

-- a lower number comes before
below : (a b c d : ℕ) → b < 2 ^ 32 → d < 2 ^ 32 → a * 2 ^ 32 + b < c * 2 ^ 32 + d → Precedes (a, b) (c, d)
below a b c d f g h = by_row (nat_lt a c) refl
  where
    by_row : (t : Bool) → nat_lt a c ≡ t → (a < c) ⊎ ((a ≡ c) × (b < d))
    by_row true e = inl (grind arith)
    by_row false e =
        let least : c < a + 1 = grind arith in
        inr (omega (arith, least, f, g, h), omega (arith, least, f, g, h))

-- after one more position
pub ends_with : (a : Ascent) (ps : List Position) (p : Position) → p.1 < 2 ^ 32 → a.last ≡ number_of p → EndsIn a.last (ps ++ p ∷ [])
ends_with a ps p f e = record { prefix = ps; position = p; whole = refl; number = e; column = f }

pub ascends_with : (a : Ascent) (ps : List Position) (p : Position) → p.1 < 2 ^ 32 → IsAscent a ps → a.falls ≡ 0
    → (a.count ≡ 0) ⊎ (a.last < number_of p) → IsAscending (ps ++ p ∷ [])
ascends_with a ps p f h t follows = by_count (a.count == 0) refl
  where
    by_count : (b : Bool) → (a.count == 0) ≡ b → IsAscending (ps ++ p ∷ [])
    by_count true e =
        let zero : a.count ≡ 0 = grind arith in
        subst (λ (l : List Position). IsAscending (l ++ p ∷ [])) (sym (h.none zero)) (tt, tt)
    by_count false e =
        let ends = h.some (grind arith) in
        let lower : a.last < number_of p = elim follows [ inl z ↦ absurd (grind arith) | inr l ↦ l ] in
        let number = ends.number in
        subst (λ (l : List Position). IsAscending (l ++ p ∷ [])) (sym ends.whole)
        (ascends_more ends.prefix ends.position p (subst IsAscending ends.whole (h.order t))
        (below ends.position.0 ends.position.1 p.0 p.1 ends.column f (omega (arith, number, lower))))

-- the box, widened
pub box_with : (found after : FoundCells) (p : Position) → p.0 < 2 ^ 32 → p.1 < 2 ^ 32 → (found.ascent.count ≡ 0 → IsUnbounded found)
    → 0 < after.ascent.count → after.top ≡ min found.top p.0 → after.left ≡ min found.left p.1 → after.bottom ≡ max found.bottom p.0
    → after.right ≡ max found.right p.1 → box_found after ≡ Some (widened (box_found found) p)
box_with found after p f g h some top left bottom right = by_count (found.ascent.count == 0) refl
  where
    box : ℕ → ℕ → ℕ → ℕ → Dimensions
    box a b c d = record { start = (a, b); end = (c, d) }

    same_box : (a b c d a' b' c' d' : ℕ) → a ≡ a' → b ≡ b' → c ≡ c' → d ≡ d' → box a b c d ≡ box a' b' c' d'
    same_box a b c d a' b' c' d' e f g h = rw (e, f, g, h) refl

    here : box_found after ≡ Some (box after.top after.left after.bottom after.right)
    here = let t : (after.ascent.count == 0) ≡ false = grind arith in rw t refl

    by_count : (b : Bool) → (found.ascent.count == 0) ≡ b → box_found after ≡ Some (widened (box_found found) p)
    by_count true e =
        let zero : found.ascent.count ≡ 0 = grind arith in
        let u = h zero in
        let a = u.top in
        let b = u.left in
        let c = u.bottom in
        let d = u.right in
        here ∙ rw e (ap (λ (x : Dimensions). Some x)
        (same_box _ _ _ _ _ _ _ _ (omega (arith, top, a, f)) (omega (arith, left, b, g)) (omega (arith, bottom, c)) (omega (arith, right, d))))
    by_count false e =
        here ∙ rw e (ap (λ (x : Dimensions). Some x) (same_box _ _ _ _ _ _ _ _ (omega (arith, top)) (omega (arith, left)) (omega (arith, bottom)) (omega (arith, right))))
