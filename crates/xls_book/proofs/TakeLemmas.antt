-- The first elements of a list, and one more.
use Rattle.std.proofs.Common.{◌≡◌, ℕ, zero, suc, ◌+◌, List, [], ◌∷◌, ◌++◌, take, refl, sym, ap, subst, arith, Option, Some, None}
use Rattle.std.specs.Prelude.{slice_get}

module _ {X : Type 0} where
  one_more : (xs : List X) (n : ℕ) (x : X) → slice_get xs n ≡ Some x → take (suc n) xs ≡ take n xs ++ x ∷ []
  one_more [] n x e = absurd cc
  one_more (y ∷ ys) zero x e = let same : y ≡ x = cc in ap (λ (z : X). z ∷ []) same
  one_more (y ∷ ys) (suc n) x e = ap (λ (l : List X). y ∷ l) (one_more ys n x e)

  none_more : (xs : List X) (n : ℕ) → slice_get xs n ≡ None → take (suc n) xs ≡ take n xs
  none_more [] zero e = refl
  none_more [] (suc n) e = refl
  none_more (y ∷ ys) zero e = absurd cc
  none_more (y ∷ ys) (suc n) e = ap (λ (l : List X). y ∷ l) (none_more ys n e)

  pub take_one : (xs : List X) (n : ℕ) (x : X) → slice_get xs n ≡ Some x → take (n + 1) xs ≡ take n xs ++ x ∷ []
  take_one xs n x e =
      let next : suc n ≡ n + 1 = omega arith in
      subst (λ (m : ℕ). take m xs ≡ take n xs ++ x ∷ []) next (one_more xs n x e)

  pub take_none : (xs : List X) (n : ℕ) → slice_get xs n ≡ None → take (n + 1) xs ≡ take n xs
  take_none xs n e =
      let next : suc n ≡ n + 1 = omega arith in
      subst (λ (m : ℕ). take m xs ≡ take n xs) next (none_more xs n e)
