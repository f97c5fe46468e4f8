-- What the sort gives, as an order of all elements.
use Rattle.std.proofs.Common.{◌≡◌, ℕ, ◌+◌, ◌<◌, ◌≤◌, Bool, true, false, List, [], ◌∷◌, get_or, refl, sym, ap, subst, ◌∙◌, arith, Option, Some, None, add-one, map}
use Rattle.std.specs.Prelude.{◌⊎◌, ◌&&◌, ◌==◌, if◌then◌else◌}
use Rattle.std.specs.Option.{option_or, option_map}
use Rattle.std.specs.Ordering.{is_lt, nat_cmp, ordering_then}
use Rattle.std.specs.List.{AllByRecursion}
use Rattle.std.specs.List.Sorted.{IsPermutation, IsSortedBy}
use Rattle.xls_range.specs.declared.sorted.Numbered.{Numbered}
use Rattle.xls_range.specs.Positions.{Position, last_at, numbered_entry, IsNumbered, IsNotAfter, IsInOrder}
use Rattle.xls_range.proofs.LastLemmas.{weaker, last_where, Rises, Ascends, same_last}

-- the order of rows, columns and numbers
abbrev Lex : ℕ → ℕ → ℕ → ℕ → ℕ → ℕ → Type 0
Lex a b n c d m = (a < c) ⊎ ((a ≡ c) × ((b < d) ⊎ ((b ≡ d) × (n ≤ m))))

lex : (a b n c d m : ℕ)
    → is_lt (ordering_then (ordering_then (nat_cmp c a) (nat_cmp d b)) (nat_cmp m n)) ≡ false
    → Lex a b n c d m
lex a b n c d m h = grind arith

lex_trans : (a b n c d m e f k : ℕ) → Lex a b n c d m → Lex c d m e f k → Lex a b n e f k
lex_trans a b n c d m e f k h i = grind arith

level : (a b n c d m p q : ℕ) → Lex a b n c d m → (a == p && b == q) ≡ true
    → (c == p && d == q) ≡ true → n ≤ m
level a b n c d m p q h s t = grind arith

abbrev pub below : {T : Type 0} → Numbered T → Numbered T → Bool
below x y = is_lt (ordering_then (ordering_then (nat_cmp x.cell.0.0 y.cell.0.0) (nat_cmp x.cell.0.1 y.cell.0.1)) (nat_cmp x.number y.number))

module _ {T : Type 0} where
  shift : (x : Numbered T) (xs : List (Numbered T)) (k : ℕ) (d : Numbered T)
      → get_or (x ∷ xs) (k + 1) d ≡ get_or xs k d
  shift x xs k d = rw (add-one k) refl

  sorted_tail : (x : Numbered T) (xs : List (Numbered T)) → IsSortedBy (below {T = T}) (x ∷ xs)
      → IsSortedBy (below {T = T}) xs
  sorted_tail x xs h k d l m =
      ap (λ (y : Numbered T). below y (get_or xs k d)) (sym (shift x xs (k + 1) d))
      ∙ ap (λ (y : Numbered T). below (get_or (x ∷ xs) (k + 1 + 1) d) y) (sym (shift x xs k d))
      ∙ h (k + 1) d (omega arith) (omega arith)

  all_after : (x : Numbered T) (xs : List (Numbered T)) → IsInOrder xs
      → ((y : Numbered T) (ys : List (Numbered T)) → xs ≡ y ∷ ys → IsNotAfter x y)
      → AllByRecursion (IsNotAfter x) xs
  all_after x [] o h = tt
  all_after x (y ∷ ys) o h =
      let first = h y ys refl in
      (first, weaker (IsNotAfter y) (IsNotAfter x) (λ z n. lex_trans x.cell.0.0 x.cell.0.1 x.number y.cell.0.0 y.cell.0.1 y.number z.cell.0.0 z.cell.0.1 z.number first n) ys o.0)

  pub in_order : (xs : List (Numbered T)) → IsSortedBy (below {T = T}) xs → IsInOrder xs
  in_order [] h = tt
  in_order (x ∷ xs) h =
      let rest = in_order xs (sorted_tail x xs h) in
      (all_after x xs rest (first x xs h), rest)
    where
      first : (x : Numbered T) (xs : List (Numbered T)) → IsSortedBy (below {T = T}) (x ∷ xs)
          → (y : Numbered T) (ys : List (Numbered T)) → xs ≡ y ∷ ys → IsNotAfter x y
      first x [] h y ys e = absurd cc
      first x (z ∷ zs) h y ys e =
          let same : z ≡ y = cc in
          let t : below z x ≡ false = h 0 x (omega arith) (omega arith) in
          subst (λ (w : Numbered T). IsNotAfter x w) same (lex x.cell.0.0 x.cell.0.1 x.number z.cell.0.0 z.cell.0.1 z.number t)

  abbrev at : Position → Numbered T → Bool
  at p x = x.cell.0.0 == p.0 && x.cell.0.1 == p.1

  abbrev number_of : Numbered T → ℕ
  number_of x = x.number

  numbers : (xs : List (Numbered T)) → IsNumbered xs → Ascends number_of xs
  numbers [] h = tt
  numbers (x ∷ xs) h = (h.0, numbers xs h.1)

  levels : (p : Position) (xs : List (Numbered T)) → IsInOrder xs → Rises number_of (at p) xs
  levels p [] o = tt
  levels p (x ∷ xs) o = (
    weaker (IsNotAfter x) (λ y. at p x ≡ true → at p y ≡ true
        → x.number ≤ y.number) (λ y n s t. level x.cell.0.0 x.cell.0.1 x.number y.cell.0.0 y.cell.0.1 y.number p.0 p.1 n s t) xs o.0,
    levels p xs o.1,
  )

  by_last : (p : Position) (xs : List (Numbered T))
      → last_at (map numbered_entry xs) p ≡ option_map (λ (x : Numbered T). x.cell.1) (last_where number_of (at p) xs)
  by_last p [] = refl
  by_last p (x ∷ xs) = rw (by_last p xs) (both (last_where number_of (at p) xs) (at p x))
    where
      both : (o : Option (Numbered T)) (b : Bool)
          → option_or (option_map (λ (x : Numbered T). x.cell.1) o) (if b then Some x.cell.1 else None) ≡ option_map (λ (x : Numbered T). x.cell.1) (option_or o (if b then Some x else None))
      both (Some y) b = refl
      both None true = refl
      both None false = refl

  -- sorted, the cells give each position the same value last
  pub same_numbered : (xs ys : List (Numbered T)) → IsPermutation xs ys → IsNumbered xs → IsInOrder ys
      → (p : Position) → last_at (map numbered_entry ys) p ≡ last_at (map numbered_entry xs) p
  same_numbered xs ys m n o p =
      by_last p ys ∙ ap (option_map (λ (x : Numbered T). x.cell.1)) (same_last number_of (at p) xs ys m (numbers xs n) (levels p ys o)) ∙ sym (by_last p xs)
