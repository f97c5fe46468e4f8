-- A section more in the arrays of a format.
use Rattle.std.proofs.Common.{◌≡◌, ℕ, ◌+◌, ◌<◌, List, [], ◌∷◌, ◌++◌, length, take, map, ap, sym, ◌∙◌, arith, add-one}
use Rattle.std.proofs.Math.ListN.{set}
use Rattle.std.proofs.Math.Seq.{take-suc-set}
use Rattle.std.proofs.lemmas.List.{length-take, length-map, map-append}

-- there is room in the arrays where there is some in the list
pub room : {A B : Type 0} (f : A → B) (n : ℕ) (xs : List A) (ys : List B) → map f (take n xs) ≡ ys → length ys < 4 → length xs ≡ 4 → n < 4
room f n xs ys e few all =
    let l = sym (length-map (take n xs) f) ∙ ap length e in
    let t = length-take n xs in omega arith

-- one more after the first n
pub take_pushed : {A : Type 0} (n : ℕ) (xs : List A) (x : A) → n < length xs → take (n + 1) (set xs n x) ≡ take n xs ++ x ∷ []
take_pushed n xs x p = rw add-one (take-suc-set xs n x p)

pub map_pushed : {A B : Type 0} (f : A → B) (n : ℕ) (xs : List A) (x : A) → n < length xs → map f (take (n + 1) (set xs n x)) ≡ map f (take n xs) ++ f x ∷ []
map_pushed f n xs x p = ap (map f) (take_pushed n xs x p) ∙ map-append f (take n xs) (x ∷ [])
