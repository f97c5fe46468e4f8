-- Lists that are mapped one element after the other.
use Rattle.std.proofs.Common.{◌≡◌, ℕ, ◌+◌, ◌<◌, List, [], ◌∷◌, ◌++◌, length, map, take, get_or, sym, ap, ◌∙◌}
use Rattle.std.proofs.lemmas.List.{take_more, map-append}

-- ---- formats

pub map_more : {X Y : Type 0} (f : X → Y) (xs : List X) (i : ℕ) (x : X) → i < length xs → x ≡ get_or xs i x
    → map f (take (i + 1) xs) ≡ map f (take i xs) ++ f x ∷ []
map_more {X} {Y} f xs i x l e =
    ap (map f) (take_more xs i x l) ∙ map-append f (take i xs) (get_or xs i x ∷ [])
    ∙ ap (λ (y : X). map f (take i xs) ++ f y ∷ []) (sym e)

-- one more element seen by f
pub map_next : {X Y : Type 0} (f : X → Y) (xs : List X) (i : ℕ) (d : X) (old new : List Y) (y : Y)
    → i < length xs → old ≡ map f (take i xs) → new ≡ old ++ y ∷ [] → y ≡ f (get_or xs i d)
    → new ≡ map f (take (i + 1) xs)
map_next {X} {Y} f xs i d old new y l had puts is =
    puts ∙ ap (λ (ys : List Y). ys ++ y ∷ []) had ∙ ap (λ (z : Y). map f (take i xs) ++ z ∷ []) is
    ∙ sym (map-append f (take i xs) (get_or xs i d ∷ [])) ∙ ap (map f) (sym (take_more xs i d l))
