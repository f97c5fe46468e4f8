-- NULs at the end of a text.
use Rattle.std.proofs.Common.{◌≡◌, ℕ, zero, suc, ◌-◌, ◌<◌, ◌≤◌, List, [], ◌∷◌, ◌++◌, length, take, get_or, true, false, refl, sym, ap, ◌∙◌, arith}
use Rattle.std.proofs.lemmas.Grind.{common_steps}
use Rattle.std.specs.Prelude.{◌==◌, ◌&&◌, Bool, if◌then◌else◌}
use Rattle.xls_props.specs.Values.{without_nuls}

pub nuls_push : (xs : List ℕ) → without_nuls (xs ++ 0 ∷ []) ≡ without_nuls xs
nuls_push [] = refl
nuls_push (x ∷ xs) = rw (nuls_push xs)

pub nuls_stop : (xs : List ℕ) (c : ℕ) → (c == 0) ≡ false → without_nuls (xs ++ c ∷ []) ≡ xs ++ c ∷ []
nuls_stop [] c some = rw some
nuls_stop (x ∷ xs) c some =
    let rest = nuls_stop xs c some in
    let long : (length (xs ++ c ∷ []) == 0) ≡ false = grind (arith, common_steps) in
    rw (rest, long) (by_test (x == 0))
  where
    by_test : (b : Bool) → (if b && false then [] else x ∷ (xs ++ c ∷ [])) ≡ x ∷ (xs ++ c ∷ [])
    by_test true = refl
    by_test false = refl

take_one_more : (bs : List ℕ) (n : ℕ) → n < length bs → take (suc n) bs ≡ take n bs ++ get_or bs n 0 ∷ []
take_one_more [] n h = absurd (omega arith)
take_one_more (b ∷ bs) zero h = refl
take_one_more (b ∷ bs) (suc n) h = ap (λ t. b ∷ t) (take_one_more bs n (omega arith))

pub nuls_less : (bs : List ℕ) (n : ℕ) → 0 < n → n ≤ length bs → get_or bs (n - 1) 0 ≡ 0
    → without_nuls (take n bs) ≡ without_nuls bs → without_nuls (take (n - 1) bs) ≡ without_nuls bs
nuls_less bs n some within nul before =
    let k : n ≡ suc (n - 1) = omega arith in
    let one : take n bs ≡ take (n - 1) bs ++ 0 ∷ [] = ap (λ j. take j bs) k ∙ take_one_more bs (n - 1) (omega arith) ∙ ap (λ c. take (n - 1) bs ++ c ∷ []) nul in
    sym (ap without_nuls one ∙ nuls_push (take (n - 1) bs)) ∙ before

pub nuls_end : (bs : List ℕ) (n : ℕ) → 0 < n → n ≤ length bs → ¬ (get_or bs (n - 1) 0 ≡ 0)
    → without_nuls (take n bs) ≡ without_nuls bs → take n bs ≡ without_nuls bs
nuls_end bs n some within other before =
    let k : n ≡ suc (n - 1) = omega arith in
    let one : take n bs ≡ take (n - 1) bs ++ get_or bs (n - 1) 0 ∷ [] = ap (λ j. take j bs) k ∙ take_one_more bs (n - 1) (omega arith) in
    let stop : (get_or bs (n - 1) 0 == 0) ≡ false = grind (arith, common_steps) in
    one ∙ sym (nuls_stop (take (n - 1) bs) (get_or bs (n - 1) 0) stop) ∙ sym (ap without_nuls one) ∙ before
