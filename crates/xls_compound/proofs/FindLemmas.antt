-- Looking up names, and the way up.
use Rattle.std.proofs.Common.{Bool, ◌≡◌, ℕ, ◌+◌, ◌<◌, ◌∷◌, [], ◌++◌, List, length, map, reverse, drop, Option, Some, None, refl, ◌∙◌, ap, sym, subst, add-one, drop-cons, Bor, arith}
use Rattle.std.proofs.Math.ListN.{get_or}
use Rattle.std.proofs.lemmas.List.{append-nil, reverse-reverse, reverse-append, map-append}
use Rattle.std.proofs.lemmas.Grind.{common_steps}
use Rattle.std.proofs.lemmas.List.Quantifiers.{position-Some}
use Rattle.std.specs.List.{position}
use Rattle.xls_compound.specs.Items.{Item, is_child, onward, find_from, Climbs, IsPath}

-- a name that no child has, and one that a child has
pub find_none : (items : List Item) (parent : Option ℕ) (name : List ℕ) (path : List (List ℕ))
    → position (is_child parent name) items ≡ None → find_from items parent (name ∷ path) ≡ None
find_none items parent name path h = ap (onward (λ place. find_from items place path)) h

pub find_some : (items : List Item) (parent : Option ℕ) (name : List ℕ) (path : List (List ℕ)) (place : ℕ)
    → position (is_child parent name) items ≡ Some place → find_from items parent (name ∷ path) ≡ find_from items (Some place) path
find_some items parent name path place h = ap (onward (λ place. find_from items place path)) h

-- a step along the names
pub step_none : (items : List Item) (parent : Option ℕ) (path : List (Bor (List ℕ))) (i : ℕ) (d : Bor (List ℕ)) → i < length path
    → position (is_child parent (get_or path i d).now) items ≡ None → find_from items parent (map (λ x. x.now) (drop i path)) ≡ None
step_none items parent path i d within h =
    ap (λ (xs : List (Bor (List ℕ))). find_from items parent (map (λ x. x.now) xs)) (drop-cons path i d within)
    ∙ find_none items parent (get_or path i d).now _ h

pub step_some : (items : List Item) (parent : Option ℕ) (path : List (Bor (List ℕ))) (i : ℕ) (d : Bor (List ℕ)) (place : ℕ) → i < length path
    → position (is_child parent (get_or path i d).now) items ≡ Some place
    → find_from items parent (map (λ x. x.now) (drop i path)) ≡ find_from items (Some place) (map (λ x. x.now) (drop (i + 1) path))
step_some items parent path i d place within h =
    ap (λ (xs : List (Bor (List ℕ))). find_from items parent (map (λ x. x.now) xs)) (drop-cons path i d within)
    ∙ find_some items parent (get_or path i d).now _ place h
    ∙ ap (λ (k : ℕ). find_from items (Some place) (map (λ x. x.now) (drop k path))) (sym (add-one i))

-- the names so far and one more
pub one_more_up : (names : List (Bor (List ℕ))) (name : Bor (List ℕ)) (rest : List (List ℕ))
    → map (λ (x : Bor (List ℕ)). x.now) (names ++ name ∷ []) ++ rest ≡ map (λ (x : Bor (List ℕ)). x.now) names ++ (name.now ∷ rest)
one_more_up names name rest = grind (arith, common_steps)

map-reverse : {A B : Type 0} (f : A → B) (xs : List A) → map f (reverse xs) ≡ reverse (map f xs)
map-reverse f [] = refl
map-reverse f (x ∷ xs) =
    ap (map f) (reverse-append (x ∷ []) xs) ∙ map-append f (reverse xs) (x ∷ [])
    ∙ ap (λ ys. ys ++ f x ∷ []) (map-reverse f xs) ∙ sym (reverse-append (f x ∷ []) (map f xs))

-- the way up, from above
pub from_above : (items : List Item) (place : ℕ) (names : List (Bor (List ℕ)))
    → Climbs items (Some place) (map (λ (x : Bor (List ℕ)). x.now) names ++ []) → IsPath items place (map (λ (x : Bor (List ℕ)). x.now) (reverse names))
from_above items place names h =
    subst (Climbs items (Some place)) (append-nil _ ∙ sym (ap reverse (map-reverse (λ (x : Bor (List ℕ)). x.now) names) ∙ reverse-reverse _)) h

-- what is found stands in the list
pub found_within : (p : Item → Bool) (items : List Item) (place : ℕ) → position p items ≡ Some place → place < length items
found_within p [] place h = absurd (cc)
found_within p (x ∷ xs) place h = (position-Some p (x ∷ xs) place x h).0
