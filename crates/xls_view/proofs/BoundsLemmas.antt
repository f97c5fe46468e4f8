-- The smallest box that holds some cells, one cell after another, and in any order.
use Rattle.std.proofs.Common.{◌≡◌, ℕ, List, [], ◌∷◌, ◌++◌, refl, sym, ap, ◌∙◌, arith, Bool, true, false, Option, Some, None}
use Rattle.std.specs.Prelude.{min, max, if◌then◌else◌}
use Rattle.xls_data.specs.declared.regions.Dimensions.{Dimensions}
use Rattle.xls_range.specs.Positions.{Position}
use Rattle.xls_range.specs.Bounds.{bounds_of, columns_at, greatest, least, rows_at}
use Rattle.xls_view.specs.SheetContents.{precedes, put_under, settled}
use Rattle.xls_view.specs.Surveying.{widened}
use Rattle.xls_view.proofs.SettledLemmas.{neither}

least-swap : (m n : ℕ) (ks : List ℕ) → min n (least m ks) ≡ min m (least n ks)
least-swap m n [] = omega arith
least-swap m n (k ∷ ks) = omega (arith, least-swap m n ks)

greatest-swap : (m n : ℕ) (ks : List ℕ) → max n (greatest m ks) ≡ max m (greatest n ks)
greatest-swap m n [] = omega arith
greatest-swap m n (k ∷ ks) = omega (arith, greatest-swap m n ks)

-- a box by its corners
abbrev box : ℕ → ℕ → ℕ → ℕ → Dimensions
box top left bottom right = record { start = (top, left); end = (bottom, right) }

same_box : (a b c d a' b' c' d' : ℕ) → a ≡ a' → b ≡ b' → c ≡ c' → d ≡ d' → box a b c d ≡ box a' b' c' d'
same_box a b c d a' b' c' d' e f g h = rw (e, f, g, h) refl

-- ---- boxes that are widened

-- by two positions in either order
pub widened-swap : (b : Option Dimensions) (p q : Position) → widened (Some (widened b p)) q ≡ widened (Some (widened b q)) p
widened-swap None p q = same_box _ _ _ _ _ _ _ _ (omega arith) (omega arith) (omega arith) (omega arith)
widened-swap (Some d) p q = same_box _ _ _ _ _ _ _ _ (omega arith) (omega arith) (omega arith) (omega arith)

-- by a position twice
widened-twice : (b : Option Dimensions) (p q : Position) → p.0 ≡ q.0 → p.1 ≡ q.1 → widened (Some (widened b q)) p ≡ widened b q
widened-twice None p q e f = same_box _ _ _ _ _ _ _ _ (omega (arith, e)) (omega (arith, f)) (omega (arith, e)) (omega (arith, f))
widened-twice (Some d) p q e f = same_box _ _ _ _ _ _ _ _ (omega (arith, e)) (omega (arith, f)) (omega (arith, e)) (omega (arith, f))

module _ {X : Type 0} where
  -- with one more cell, which comes first
  pub bounds_first : (c : Position × X) (cs : List (Position × X)) → bounds_of (c ∷ cs) ≡ Some (widened (bounds_of cs) c.0)
  bounds_first c [] = refl
  bounds_first c (d ∷ ds) =
      ap (λ (x : Dimensions). Some x) (same_box _ _ _ _ _ _ _ _
      (least-swap c.0.0 d.0.0 (rows_at ds)) (least-swap c.0.1 d.0.1 (columns_at ds))
      (greatest-swap c.0.0 d.0.0 (rows_at ds)) (greatest-swap c.0.1 d.0.1 (columns_at ds)))

  -- or last
  pub bounds_last : (cs : List (Position × X)) (c : Position × X) → bounds_of (cs ++ c ∷ []) ≡ Some (widened (bounds_of cs) c.0)
  bounds_last [] c = refl
  bounds_last (d ∷ ds) c =
      bounds_first d (ds ++ c ∷ [])
      ∙ ap (λ (b : Option Dimensions). Some (widened b d.0)) (bounds_last ds c)
      ∙ ap (λ (x : Dimensions). Some x) (widened-swap (bounds_of ds) c.0 d.0)
      ∙ ap (λ (b : Option Dimensions). Some (widened b c.0)) (sym (bounds_first d ds))

  -- or by its position
  bounds_under : (c : Position × X) (xs : List (Position × X)) → bounds_of (put_under c xs) ≡ Some (widened (bounds_of xs) c.0)
  bounds_under c [] = refl
  bounds_under c (x ∷ xs) = by_test (bounds_under c xs) (precedes c.0 x.0) refl (precedes x.0 c.0) refl
    where
      by_test : bounds_of (put_under c xs) ≡ Some (widened (bounds_of xs) c.0)
          → (t : Bool) → precedes c.0 x.0 ≡ t → (u : Bool) → precedes x.0 c.0 ≡ u
          → bounds_of (if t then c ∷ x ∷ xs else if u then x ∷ put_under c xs else x ∷ xs) ≡ Some (widened (bounds_of (x ∷ xs)) c.0)
      by_test on true e u f = bounds_first c (x ∷ xs)
      by_test on false e true f =
          bounds_first x (put_under c xs)
          ∙ ap (λ (b : Option Dimensions). Some (widened b x.0)) on
          ∙ ap (λ (d : Dimensions). Some d) (widened-swap (bounds_of xs) c.0 x.0)
          ∙ ap (λ (b : Option Dimensions). Some (widened b c.0)) (sym (bounds_first x xs))
      by_test on false e false f =
          let same = neither c.0.0 c.0.1 x.0.0 x.0.1 e f in
          bounds_first x xs
          ∙ ap (λ (d : Dimensions). Some d) (sym (widened-twice (bounds_of xs) c.0 x.0 same.0 same.1))
          ∙ ap (λ (b : Option Dimensions). Some (widened b c.0)) (sym (bounds_first x xs))

  -- in order they are those of all
  pub bounds_settled : (cs : List (Position × X)) → bounds_of (settled cs) ≡ bounds_of cs
  bounds_settled [] = refl
  bounds_settled (c ∷ cs) =
      bounds_under c (settled cs)
      ∙ ap (λ (b : Option Dimensions). Some (widened b c.0)) (bounds_settled cs)
      ∙ sym (bounds_first c cs)
