-- Names sorted, each once.
use Rattle.std.proofs.Common.{◌≡◌, ℕ, List, [], ◌∷◌, map, Bool, true, false, cond, Bor, refl}
use Rattle.std.proofs.lemmas.List.Kept.{IsStrictlySortedBy-dedup, Contains-dedup, Contains-from_dedup}
use Rattle.std.proofs.lemmas.List.Sorted.{Contains-permutation, IsPermutation-map, IsPermutation-sym}
use Rattle.std.proofs.lemmas.Slice.Eq.{bytes_eq-Decides}
use Rattle.std.specs.Cmp.Lexicographic.{slice_cmp, pointwise, on_texts, on_texts_equal, texts_ties}
use Rattle.std.specs.List.{dedup, dedup_from, Contains, AllByRecursion}
use Rattle.std.specs.List.Sorted.{IsSorted, IsPermutation, IsStrictlySortedBy}
use Rattle.std.proofs.Common.{nat_cmp, Less}
use Rattle.std.specs.Prelude.{nat_eq}

-- the bytes of texts
abbrev pub bytes_of : List (Bor (List ℕ)) → List (List ℕ)
bytes_of = map (λ x. x.now)

all_below : (x : Bor (List ℕ)) (zs : List (Bor (List ℕ))) → AllByRecursion (λ y. slice_cmp nat_cmp x.now y.now ≡ Less) zs
    → AllByRecursion (λ y. slice_cmp nat_cmp x.now y ≡ Less) (bytes_of zs)
all_below x [] h = tt
all_below x (z ∷ zs) h = (h.0, all_below x zs h.1)

sorted_bytes : (zs : List (Bor (List ℕ))) → IsStrictlySortedBy (λ x y. slice_cmp nat_cmp x.now y.now) zs → IsStrictlySortedBy (slice_cmp nat_cmp) (bytes_of zs)
unfolding IsStrictlySortedBy
sorted_bytes [] h = tt
sorted_bytes (z ∷ zs) h = (all_below z zs h.0, sorted_bytes zs h.1)

bytes_cond : (b : Bool) (xs ys : List (Bor (List ℕ))) → bytes_of (cond b xs ys) ≡ cond b (bytes_of xs) (bytes_of ys)
bytes_cond true xs ys = refl
bytes_cond false xs ys = refl

bytes_dedup_from : (k : Bor (List ℕ)) (ys : List (Bor (List ℕ)))
    → bytes_of (dedup_from (λ x y. pointwise nat_eq x.now y.now) k ys) ≡ dedup_from (pointwise nat_eq) k.now (bytes_of ys)
bytes_dedup_from k [] = refl
bytes_dedup_from k (y ∷ ys) = rw (bytes_cond, bytes_dedup_from k ys, bytes_dedup_from y ys)

bytes_dedup : (ys : List (Bor (List ℕ))) → bytes_of (dedup (λ x y. pointwise nat_eq x.now y.now) ys) ≡ dedup (pointwise nat_eq) (bytes_of ys)
bytes_dedup [] = refl
bytes_dedup (y ∷ ys) = bytes_dedup_from y ys

module _ (xs ys : List (Bor (List ℕ))) (moved : IsPermutation xs ys) where
  pub names_ordered : IsSorted (λ x y. slice_cmp nat_cmp x.now y.now) ys → IsStrictlySortedBy (slice_cmp nat_cmp) (bytes_of (dedup (λ x y. pointwise nat_eq x.now y.now) ys))
  names_ordered sorted = sorted_bytes _ (IsStrictlySortedBy-dedup (on_texts (λ (x : Bor (List ℕ)). x.now)) (λ x y. texts_ties x.now y.now) ys sorted)

  pub names_found : (q : List ℕ) → Contains (bytes_of xs) q → Contains (bytes_of (dedup (λ x y. pointwise nat_eq x.now y.now) ys)) q
  names_found q h =
      rw (bytes_dedup ys) (Contains-dedup (on_texts_equal (λ (x : List ℕ). x)) same (bytes_of ys) q (Contains-permutation _ _ q (IsPermutation-map (λ (x : Bor (List ℕ)). x.now) xs ys moved) h))
    where
      same : (x y : List ℕ) → pointwise nat_eq x y ≡ true → x ≡ y
      same x y e = (bytes_eq-Decides x y).0 e

  pub names_only : (q : List ℕ) → Contains (bytes_of (dedup (λ x y. pointwise nat_eq x.now y.now) ys)) q → Contains (bytes_of xs) q
  names_only q h =
      Contains-permutation _ _ q (IsPermutation-sym _ _ (IsPermutation-map (λ (x : Bor (List ℕ)). x.now) xs ys moved)) (Contains-from_dedup (pointwise nat_eq) (bytes_of ys) q (rw (bytes_dedup ys) at h))
