-- Two lists of cells in order that have the same value at each position are one list.
use Rattle.std.proofs.Common.{◌≡◌, ℕ, ◌<◌, Bool, true, false, List, [], ◌∷◌, map, refl, sym, ap, subst, ◌∙◌, arith, inl, inr, Option, Some, None}
use Rattle.std.specs.Prelude.{◌⊎◌, ◌==◌, ◌&&◌}
use Rattle.std.specs.Option.{option_or}
use Rattle.std.specs.List.{AllByRecursion}
use Rattle.xls_range.specs.Positions.{last_at, Precedes, IsAscending}

-- a row and a column
abbrev Position : Type 0
Position = ℕ × ℕ

-- one position comes first, or they are the same
abbrev Compared : ℕ → ℕ → ℕ → ℕ → Type 0
Compared a b c d =
    ((a < c) ⊎ ((a ≡ c) × (b < d))) ⊎ (((a ≡ c) × (b ≡ d)) ⊎ ((c < a) ⊎ ((c ≡ a) × (d < b))))

-- any two positions compare so
compared : (a b c d : ℕ) → Compared a b c d
compared a b c d = grind arith

-- of two positions in order the test for equal ones is false
apart : (a b c d : ℕ) → (a < c) ⊎ ((a ≡ c) × (b < d)) → (c == a && d == b) ≡ false
apart a b c d h = grind arith

-- a position passes the test with itself
same : (a b : ℕ) → (a == a && b == b) ≡ true
same a b = grind arith

-- positions that pass the test are equal
both : (a b c d : ℕ) → (a == c && b == d) ≡ true → (a ≡ c) × (b ≡ d)
both a b c d h = grind arith

-- equal rows and columns make equal positions
same_pair : (a b c d : ℕ) → a ≡ c → b ≡ d → ◌≡◌ {A = Position} (a, b) (c, d)
same_pair a b c d e f = ap (λ (x : ℕ). (x, b)) e ∙ ap (λ (x : ℕ). (c, x)) f

-- nothing after a value leaves the value
or_none : {X : Type 0} (o : Option X) → option_or o None ≡ o
or_none None = refl
or_none (Some x) = refl

module _ {T : Type 0} where
  -- where a cell stands
  abbrev at : Position × T → Position
  at x = x.0

  -- a position before all of them has no value
  pub none_before : (p : Position) (xs : List (Position × T)) → AllByRecursion (Precedes p) (map at xs)
      → last_at xs p ≡ None
  none_before p [] h = refl
  none_before p (x ∷ xs) h =
      let e : last_at xs p ≡ None = none_before p xs h.1 in
      let t : (x.0.0 == p.0 && x.0.1 == p.1) ≡ false = apart p.0 p.1 x.0.0 x.0.1 h.0 in
      rw (e, t) refl

  -- the first one has its value
  first_there : (x : Position × T) (xs : List (Position × T)) → IsAscending (map at (x ∷ xs))
      → last_at (x ∷ xs) x.0 ≡ Some x.1
  first_there x xs h =
      let e : last_at xs x.0 ≡ None = none_before x.0 xs h.0 in
      let t : (x.0.0 == x.0.0 && x.0.1 == x.0.1) ≡ true = same x.0.0 x.0.1 in
      rw (e, t) refl

  -- before the first one there is no value
  later : (p : Position) (y : Position × T) (ys : List (Position × T)) → Precedes p y.0
      → IsAscending (map at (y ∷ ys)) → AllByRecursion (Precedes p) (map at (y ∷ ys))
  later p y ys h a = (h, all ys a.0)
    where
      all : (zs : List (Position × T)) → AllByRecursion (Precedes y.0) (map at zs)
          → AllByRecursion (Precedes p) (map at zs)
      all [] b = tt
      all (z ∷ zs) b = (through p.0 p.1 y.0.0 y.0.1 z.0.0 z.0.1 h b.0, all zs b.1)
        where
          through : (a b c d e f : ℕ) → (a < c) ⊎ ((a ≡ c) × (b < d)) → (c < e) ⊎ ((c ≡ e) × (d < f))
              → (a < e) ⊎ ((a ≡ e) × (b < f))
          through a b c d e f h k = grind arith

  -- both have the same value at each position
  abbrev Same : List (Position × T) → List (Position × T) → Type 0
  Same xs ys = (p : Position) → last_at xs p ≡ last_at ys p

  -- after equal first cells both have the same values
  same_tail : (x y : Position × T) (xs ys : List (Position × T)) → x.0 ≡ y.0
      → IsAscending (map at (x ∷ xs)) → IsAscending (map at (y ∷ ys)) → Same (x ∷ xs) (y ∷ ys)
      → Same xs ys
  same_tail x y xs ys e a b h p = by_test (x.0.0 == p.0 && x.0.1 == p.1) refl
    where
      by_test : (t : Bool) → (x.0.0 == p.0 && x.0.1 == p.1) ≡ t → last_at xs p ≡ last_at ys p
      by_test true t =
          let found = both x.0.0 x.0.1 p.0 p.1 t in
          let here : x.0 ≡ p = same_pair x.0.0 x.0.1 p.0 p.1 found.0 found.1 in
          none_before p xs (subst (λ (q : Position). AllByRecursion (Precedes q) (map at xs)) here a.0)
          ∙ sym (none_before p ys (subst (λ (q : Position). AllByRecursion (Precedes q) (map at ys)) (sym e ∙ here) b.0))
      by_test false t =
          let u : (y.0.0 == p.0 && y.0.1 == p.1) ≡ false =
          ap (λ (q : Position). q.0 == p.0 && q.1 == p.1) (sym e) ∙ t in
          let left : last_at (x ∷ xs) p ≡ last_at xs p = rw t (or_none (last_at xs p)) in
          let right : last_at (y ∷ ys) p ≡ last_at ys p = rw u (or_none (last_at ys p)) in
          sym left ∙ h p ∙ right

  -- so they are one list
  pub same_cells : (xs ys : List (Position × T)) → IsAscending (map at xs) → IsAscending (map at ys)
      → Same xs ys → xs ≡ ys
  same_cells [] [] a b h = refl
  same_cells [] (y ∷ ys) a b h =
      let e : None ≡ Some y.1 = h y.0 ∙ first_there y ys b in absurd cc
  same_cells (x ∷ xs) [] a b h =
      let e : Some x.1 ≡ None = sym (first_there x xs a) ∙ h x.0 in absurd cc
  same_cells (x ∷ xs) (y ∷ ys) a b h =
      elim (compared x.0.0 x.0.1 y.0.0 y.0.1) [
        | inl before ↦ (let e : Some x.1 ≡ None = sym (first_there x xs a) ∙ h x.0
            ∙ none_before x.0 (y ∷ ys) (later x.0 y ys before b) in absurd cc)
        | inr others ↦ elim others [
          | inl equal ↦ (
              let e : x.0 ≡ y.0 = same_pair x.0.0 x.0.1 y.0.0 y.0.1 equal.0 equal.1 in
              let some : Some x.1 ≡ Some y.1 = sym (first_there x xs a) ∙ h x.0
              ∙ ap (last_at (y ∷ ys)) e ∙ first_there y ys b in
              let value : x.1 ≡ y.1 = cc in
              let first : ◌≡◌ {A = Position × T} x y =
              ap (λ (p : Position). (p, x.1)) e ∙ ap (λ (v : T). (y.0, v)) value in
              ap (λ (z : Position × T). z ∷ xs) first
              ∙ ap (λ (zs : List (Position × T)). y ∷ zs) (same_cells xs ys a.1 b.1 (same_tail x y xs ys e a b h)))
          | inr following ↦ (let e : Some y.1 ≡ None = sym (first_there y ys b) ∙ sym (h y.0)
              ∙ none_before y.0 (x ∷ xs) (later y.0 x xs following a) in absurd cc)
        ]
      ]
