-- Texts one after another.
use Rattle.std.proofs.Common.{◌≡◌, ℕ, ◌+◌, ◌<◌, List, [], ◌∷◌, ◌++◌, length, get_or, take, append_assoc, append-nil, map, ◌≤◌, refl, sym, ap, subst, ◌∙◌}
use Rattle.xls_output.specs.Added.{AddsText}
use Rattle.xls_output.specs.Each.{Concatenates}
use Rattle.std.proofs.lemmas.List.{take_more}
use Rattle.std.proofs.lemmas.List.{take_all}

snoc : {X : Type 0} (P : X → List ℕ → Type 0) (xs : List X) (x : X) (a b : List ℕ)
    → Concatenates P xs a → P x b → Concatenates P (xs ++ x ∷ []) (a ++ b)
snoc P [] x a b none p = (b, [], p, refl, ap (λ t. t ++ b) none ∙ sym (append-nil b))
snoc P (y ∷ ys) x a b all p =
    (all.0, all.1 ++ b, all.2, snoc P ys x all.1 b all.3 p, ap (λ t. t ++ b) all.4 ∙ append_assoc all.0 all.1 b)

-- one more, after those before an index
pub concatenates_more : {X : Type 0} (P : X → List ℕ → Type 0) (xs : List X) (x : X) (i : ℕ) (old now new : List ℕ)
    → i < length xs → x ≡ get_or xs i x
    → AddsText (Concatenates P (take i xs)) old now → AddsText (P x) now new
    → AddsText (Concatenates P (take (i + 1) xs)) old new
concatenates_more P xs x i old now new l is so_far here =
    let step : take (i + 1) xs ≡ take i xs ++ x ∷ [] = take_more xs i x l ∙ ap (λ y. take i xs ++ y ∷ []) (sym is) in (
      so_far.0 ++ here.0,
      subst (λ l. Concatenates P l (so_far.0 ++ here.0)) (sym step) (snoc P (take i xs) x so_far.0 here.0 so_far.1 here.1),
      here.2 ∙ ap (λ t. t ++ here.0) so_far.2 ∙ append_assoc old so_far.0 here.0,
    )

concatenates_map : {X Y : Type 0} (f : X → Y) (P : Y → List ℕ → Type 0) (xs : List X) (text : List ℕ)
    → Concatenates (λ x. P (f x)) xs text → Concatenates P (map f xs) text
concatenates_map f P [] text none = none
concatenates_map f P (x ∷ xs) text all = (all.0, all.1, all.2, concatenates_map f P xs all.1 all.3, all.4)

-- all of them, by what they hold
pub adds_map : {X Y : Type 0} (f : X → Y) (P : Y → List ℕ → Type 0) (xs : List X) (i : ℕ) (old new : List ℕ)
    → length xs ≤ i → AddsText (Concatenates (λ x. P (f x)) (take i xs)) old new
    → AddsText (Concatenates P (map f xs)) old new
adds_map f P xs i old new l all =
    (all.0, concatenates_map f P xs all.0 (subst (λ ys. Concatenates (λ x. P (f x)) ys all.0) (take_all i xs l) all.1), all.2)
