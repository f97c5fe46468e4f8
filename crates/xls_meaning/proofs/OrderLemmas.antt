-- Going along a list, and the first that is there.
use Rattle.std.proofs.Common.{◌≡◌, List, [], ◌∷◌, ◌++◌, Option, Some, None, refl, sym, ap, ◌∙◌, append_assoc, map}
use Rattle.std.specs.Prelude.{unwrap_or}
use Rattle.std.specs.Option.{option_or}
use Rattle.std.specs.List.{flat_map}
use Rattle.std.proofs.lemmas.List.{append-nil}
use Rattle.xls_meaning.specs.Order.{map_with_earlier, first_of, last_of, somes}

module _ {E : Type 0} where
  option_or_assoc : (a b c : Option E) → option_or (option_or a b) c ≡ option_or a (option_or b c)
  option_or_assoc None b c = refl
  option_or_assoc (Some x) b c = refl

  pub first-append : (xs ys : List (Option E))
      → first_of (xs ++ ys) ≡ option_or (first_of xs) (first_of ys)
  first-append [] ys = refl
  first-append (x ∷ xs) ys =
      ap (option_or x) (first-append xs ys) ∙ sym (option_or_assoc x (first_of xs) (first_of ys))

  pub first_after : (xs ys : List (Option E)) → first_of xs ≡ None
      → first_of (xs ++ ys) ≡ first_of ys
  first_after xs ys h = first-append xs ys ∙ ap (λ (o : Option E). option_or o (first_of ys)) h

  pub first_early : (xs ys : List (Option E)) (e : E) → first_of xs ≡ Some e
      → first_of (xs ++ ys) ≡ Some e
  first_early xs ys e h = first-append xs ys ∙ ap (λ (o : Option E). option_or o (first_of ys)) h

  pub or_none : (a b : Option E) → option_or a b ≡ None → (a ≡ None) × (b ≡ None)
  or_none None b e = (refl, e)
  or_none (Some x) b e = absurd cc

  pub none_both : (xs ys : List (Option E)) → first_of (xs ++ ys) ≡ None → (first_of xs ≡ None)
      × (first_of ys ≡ None)
  none_both xs ys h = or_none (first_of xs) (first_of ys) (sym (first-append xs ys) ∙ h)

  pub none_append : (xs ys : List (Option E)) → first_of xs ≡ None → first_of ys ≡ None
      → first_of (xs ++ ys) ≡ None
  none_append xs ys h k = first_after xs ys h ∙ k

pub somes-append : {X : Type 0} (xs ys : List (Option X)) → somes (xs ++ ys) ≡ somes xs ++ somes ys
somes-append [] ys = refl
somes-append (None ∷ xs) ys = somes-append xs ys
somes-append {X} (Some x ∷ xs) ys = ap (λ (l : List X). x ∷ l) (somes-append xs ys)

module _ {X Y : Type 0} (f : List X → X → Y) where
  pub map_with_earlier-append : (before xs ys : List X) → map_with_earlier f before (xs ++ ys) ≡ map_with_earlier f before xs
      ++ map_with_earlier f (before ++ xs) ys
  map_with_earlier-append before [] ys = ap (λ (b : List X). map_with_earlier f b ys) (sym (append-nil before))
  map_with_earlier-append before (x ∷ xs) ys =
      ap (λ (l : List Y). f before x ∷ l) (map_with_earlier-append (before ++ x ∷ []) xs ys
      ∙ ap (λ (b : List X). map_with_earlier f (before ++ x ∷ []) xs
      ++ map_with_earlier f b ys) (append_assoc before (x ∷ []) xs))

  pub map_with_earlier-push : (xs : List X) (x : X) → map_with_earlier f [] (xs ++ x ∷ []) ≡ map_with_earlier f [] xs ++ f xs x ∷ []
  map_with_earlier-push xs x = map_with_earlier-append [] xs (x ∷ [])

module _ {X E : Type 0} (f : List X → X → Option E) where
  -- the element after those without a fault is the first that has one
  pub first_at : (xs : List X) (x : X) (more : List X) (os : List (Option E)) (e : E)
      → first_of (map_with_earlier f [] xs) ≡ None → f xs x ≡ Some e
      → first_of (map_with_earlier f [] (xs ++ x ∷ more) ++ os) ≡ Some e
  first_at xs x more os e h g =
      first_early (map_with_earlier f [] (xs ++ x ∷ more)) os e
      (ap first_of (map_with_earlier-append f [] xs (x ∷ more))
      ∙ first_after (map_with_earlier f [] xs) (map_with_earlier f xs (x ∷ more)) h
      ∙ ap (λ (o : Option E). option_or o (first_of (map_with_earlier f (xs ++ x ∷ []) more))) g)

  pub none_push : (xs : List X) (x : X) → first_of (map_with_earlier f [] xs) ≡ None → f xs x ≡ None
      → first_of (map_with_earlier f [] (xs ++ x ∷ [])) ≡ None
  none_push xs x h g =
      ap first_of (map_with_earlier-push f xs x) ∙ first_after (map_with_earlier f [] xs) (f xs x ∷ []) h
      ∙ ap (λ (o : Option E). option_or o None) g

module _ {X E : Type 0} (f : X → Option E) where
  option_or_none : (o : Option E) → option_or o None ≡ o
  option_or_none None = refl
  option_or_none (Some x) = refl

  or_assoc : (a b c : Option E) → option_or (option_or a b) c ≡ option_or a (option_or b c)
  or_assoc None b c = refl
  or_assoc (Some x) b c = refl

  -- the last of one more is its own, if there is one
  pub last-push : (xs : List X) (x : X)
      → last_of (map f (xs ++ x ∷ [])) ≡ option_or (f x) (last_of (map f xs))
  last-push [] x = sym (option_or_none (f x))
  last-push (y ∷ ys) x =
      ap (λ (o : Option E). option_or o (f y)) (last-push ys x)
      ∙ or_assoc (f x) (last_of (map f ys)) (f y)

-- after one more, what is unwrapped is its own, if there is one
pub unwrap_push : {X : Type 0} (said last : Option X) (x : X)
    → unwrap_or (option_or said last) x ≡ unwrap_or said (unwrap_or last x)
unwrap_push None last x = refl
unwrap_push (Some p) last x = refl

pub flat_push : {X Y : Type 0} (f : X → List Y) (xs : List X) (x : X)
    → flat_map f (xs ++ x ∷ []) ≡ flat_map f xs ++ f x
flat_push f [] x = append-nil (f x)
flat_push {Y = Y} f (y ∷ ys) x =
    ap (λ (l : List Y). f y ++ l) (flat_push f ys x) ∙ sym (append_assoc (f y) (flat_map f ys) (f x))
