-- Lists that hold place by place, one element longer.
use Rattle.std.proofs.Common.{List, [], ◌∷◌, ◌++◌, ◌≡◌, ℕ, ◌+◌, ◌<◌, length, take, get_or, sym, ◌∙◌, ap}
use Rattle.std.specs.List.{AllZip}
use Rattle.std.proofs.lemmas.List.{take_more}

pub AllZip-snoc : {A B : Type 0} (R : A → B → Type 0) (xs : List A) (ys : List B) (x : A) (y : B) → AllZip R xs ys → R x y → AllZip R (xs ++ x ∷ []) (ys ++ y ∷ [])
AllZip-snoc R [] [] x y zip one = (one, tt)
AllZip-snoc R [] (b ∷ ys) x y zip one = absurd zip
AllZip-snoc R (a ∷ xs) [] x y zip one = absurd zip
AllZip-snoc R (a ∷ xs) (b ∷ ys) x y zip one = (zip.0, AllZip-snoc R xs ys x y zip.1 one)

-- the step of a loop over the first list
pub AllZip-more : {A B : Type 0} (R : A → B → Type 0) (xs : List A) (ys : List B) (k : ℕ) (x : A) (y : B) → k < length xs → x ≡ get_or xs k x
    → AllZip R (take k xs) ys → R x y → AllZip R (take (k + 1) xs) (ys ++ y ∷ [])
AllZip-more R xs ys k x y near item zip one =
    let more : take (k + 1) xs ≡ take k xs ++ x ∷ [] = take_more xs k x near ∙ ap (λ z. take k xs ++ z ∷ []) (sym item) in
    rw more (AllZip-snoc R (take k xs) ys x y zip one)
