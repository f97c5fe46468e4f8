-- Values put in order of their positions, of those of one position the last.
use Rattle.std.proofs.Common.{◌≡◌, ℕ, ◌<◌, List, [], ◌∷◌, map, refl, sym, ap, subst, ◌∙◌, arith, inl, inr, Bool, true, false, Option, Some, None}
use Rattle.std.specs.Prelude.{◌⊎◌, ◌==◌, ◌&&◌, nat_lt, if◌then◌else◌}
use Rattle.std.specs.Option.{option_or, option_map}
use Rattle.std.specs.List.{AllByRecursion}
use Rattle.xls_range.specs.Positions.{Position, last_at, Precedes, IsAscending}
use Rattle.xls_style_cells.proofs.AscendingLemmas.{same_cells}
use Rattle.xls_style_cells.specs.Order.{ascends, follows, precedes, put_under, settled}

-- ---- tests of positions

before : (a b c d : ℕ) → (if nat_lt a c then true else if nat_lt c a then false else nat_lt b d) ≡ true → (a < c) ⊎ ((a ≡ c) × (b < d))
before a b c d h = by_test (nat_lt a c) refl
  where
    by_other : (t : Bool) → nat_lt c a ≡ t → nat_lt a c ≡ false → (a < c) ⊎ ((a ≡ c) × (b < d))
    by_other true u v = absurd (let e : false ≡ true = rw (v, u) at h in cc)
    by_other false u v = let l : nat_lt b d ≡ true = rw (v, u) at h in inr (grind arith, grind arith)

    by_test : (t : Bool) → nat_lt a c ≡ t → (a < c) ⊎ ((a ≡ c) × (b < d))
    by_test true u = inl (grind arith)
    by_test false u = by_other (nat_lt c a) refl u

pub neither : (a b c d : ℕ) → (if nat_lt a c then true else if nat_lt c a then false else nat_lt b d) ≡ false
    → (if nat_lt c a then true else if nat_lt a c then false else nat_lt d b) ≡ false → (a ≡ c) × (b ≡ d)
neither a b c d h k = by_test (nat_lt a c) refl (nat_lt c a) refl
  where
    by_test : (t : Bool) → nat_lt a c ≡ t → (u : Bool) → nat_lt c a ≡ u → (a ≡ c) × (b ≡ d)
    by_test true e u f = absurd (let g : true ≡ false = rw e at h in cc)
    by_test false e true f = absurd (let g : true ≡ false = rw f at k in cc)
    by_test false e false f =
        let g : nat_lt b d ≡ false = rw (e, f) at h in
        let i : nat_lt d b ≡ false = rw (e, f) at k in
        (grind arith, grind arith)

apart : (a b c d e f : ℕ) → (a < c) ⊎ ((a ≡ c) × (b < d)) → (a == e && b == f) ≡ true → (c == e && d == f) ≡ true → ⊥
apart a b c d e f h t u = grind arith

-- what comes after one position comes after those before it
through : (p q : Position) (ps : List Position) → Precedes p q → AllByRecursion (Precedes q) ps → AllByRecursion (Precedes p) ps
through p q [] h a = tt
through p q (r ∷ ps) h a = (on p.0 p.1 q.0 q.1 r.0 r.1 h a.0, through p q ps h a.1)
  where
    on : (a b c d e f : ℕ) → (a < c) ⊎ ((a ≡ c) × (b < d)) → (c < e) ⊎ ((c ≡ e) × (d < f)) → (a < e) ⊎ ((a ≡ e) × (b < f))
    on a b c d e f h k = grind arith

-- ---- the test that positions ascend

both_hold : (a b : Bool) → (a && b) ≡ true → (a ≡ true) × (b ≡ true)
both_hold true b h = (refl, h)
both_hold false b h = absurd (let e : false ≡ true = h in cc)

-- what ascends behind a position comes after it
behind : (p : Position) (ps : List Position) → ascends (Some p) ps ≡ true → AllByRecursion (Precedes p) ps × IsAscending ps
behind p [] h = (tt, tt)
behind p (q ∷ ps) h =
    let holds = both_hold (precedes p q) (ascends (Some q) ps) h in
    let first = before p.0 p.1 q.0 q.1 holds.0 in
    let others = behind q ps holds.1 in
    ((first, through p q ps first others.0), others)

pub passed : (ps : List Position) → ascends None ps ≡ true → IsAscending ps
passed [] h = tt
passed (p ∷ ps) h = behind p ps h

-- one more position that comes after the last one, or one that doesn't
pub ascends_more : (last : Option Position) (p : Position) (ps : List Position) → follows last p ≡ true → ascends last (p ∷ ps) ≡ ascends (Some p) ps
ascends_more last p ps h = rw h refl

pub ascends_less : (last : Option Position) (p : Position) (ps : List Position) → follows last p ≡ false → ascends last (p ∷ ps) ≡ false
ascends_less last p ps h = rw h refl

module _ {X : Type 0} where
  abbrev at : Position × X → Position
  at x = x.0

  -- ---- order

  all_under : (p : Position) (c : Position × X) (xs : List (Position × X)) → Precedes p c.0 → AllByRecursion (Precedes p) (map at xs)
      → AllByRecursion (Precedes p) (map at (put_under c xs))
  all_under p c [] h a = (h, tt)
  all_under p c (x ∷ xs) h a = by_test (all_under p c xs h a.1) (precedes c.0 x.0) (precedes x.0 c.0)
    where
      by_test : AllByRecursion (Precedes p) (map at (put_under c xs))
          → (t u : Bool) → AllByRecursion (Precedes p) (map at (if t then c ∷ x ∷ xs else if u then x ∷ put_under c xs else x ∷ xs))
      by_test on true u = (h, a)
      by_test on false true = (a.0, on)
      by_test on false false = a

  ascending_under : (c : Position × X) (xs : List (Position × X)) → IsAscending (map at xs) → IsAscending (map at (put_under c xs))
  ascending_under c [] a = (tt, tt)
  ascending_under c (x ∷ xs) a = by_test (ascending_under c xs a.1) (precedes c.0 x.0) refl (precedes x.0 c.0) refl
    where
      by_test : IsAscending (map at (put_under c xs)) → (t : Bool) → precedes c.0 x.0 ≡ t → (u : Bool) → precedes x.0 c.0 ≡ u
          → IsAscending (map at (if t then c ∷ x ∷ xs else if u then x ∷ put_under c xs else x ∷ xs))
      by_test on true e u f =
          let h = before c.0.0 c.0.1 x.0.0 x.0.1 e in ((h, through c.0 x.0 (map at xs) h a.0), a)
      by_test on false e true f =
          let h = before x.0.0 x.0.1 c.0.0 c.0.1 f in (all_under x.0 c xs h a.0, on)
      by_test on false e false f = a

  pub ascending_settled : (xs : List (Position × X)) → IsAscending (map at (settled xs))
  ascending_settled [] = tt
  ascending_settled (x ∷ xs) = ascending_under x (settled xs) (ascending_settled xs)

  -- ---- the value of a position

  abbrev here : Position × X → Position → Option X
  here x p = if (x.0.0 == p.0) && (x.0.1 == p.1) then Some x.1 else None

  swap : (c x : Position × X) (p : Position) (o : Option X) → Precedes x.0 c.0 → option_or (option_or o (here c p)) (here x p) ≡ option_or (option_or o (here x p)) (here c p)
  swap c x p (Some v) h = refl
  swap c x p None h = by_test ((c.0.0 == p.0) && (c.0.1 == p.1)) refl ((x.0.0 == p.0) && (x.0.1 == p.1)) refl
    where
      by_test : (t : Bool) → ((c.0.0 == p.0) && (c.0.1 == p.1)) ≡ t → (u : Bool) → ((x.0.0 == p.0) && (x.0.1 == p.1)) ≡ u
          → option_or (if t then Some c.1 else None) (if u then Some x.1 else None) ≡ option_or (if u then Some x.1 else None) (if t then Some c.1 else None)
      by_test true e true f = absurd (apart x.0.0 x.0.1 c.0.0 c.0.1 p.0 p.1 h f e)
      by_test true e false f = refl
      by_test false e true f = refl
      by_test false e false f = refl

  under : (c x : Position × X) (p : Position) (o : Option X) → c.0.0 ≡ x.0.0 → c.0.1 ≡ x.0.1 → option_or o (here x p) ≡ option_or (option_or o (here x p)) (here c p)
  under c x p (Some v) e f = refl
  under c x p None e f = rw (e, f) (by_test ((x.0.0 == p.0) && (x.0.1 == p.1)))
    where
      by_test : (t : Bool) → ◌≡◌ {A = Option X} (if t then Some x.1 else None) (option_or (if t then Some x.1 else None) (if t then Some c.1 else None))
      by_test true = refl
      by_test false = refl

  last_under : (c : Position × X) (xs : List (Position × X)) (p : Position) → last_at (put_under c xs) p ≡ option_or (last_at xs p) (here c p)
  last_under c [] p = refl
  last_under c (x ∷ xs) p = by_test (last_under c xs p) (precedes c.0 x.0) refl (precedes x.0 c.0) refl
    where
      by_test : last_at (put_under c xs) p ≡ option_or (last_at xs p) (here c p)
          → (t : Bool) → precedes c.0 x.0 ≡ t → (u : Bool) → precedes x.0 c.0 ≡ u
          → last_at (if t then c ∷ x ∷ xs else if u then x ∷ put_under c xs else x ∷ xs) p ≡ option_or (option_or (last_at xs p) (here x p)) (here c p)
      by_test on true e u f = refl
      by_test on false e true f =
          ap (λ (o : Option X). option_or o (here x p)) on
          ∙ swap c x p (last_at xs p) (before x.0.0 x.0.1 c.0.0 c.0.1 f)
      by_test on false e false f =
          let same = neither c.0.0 c.0.1 x.0.0 x.0.1 e f in under c x p (last_at xs p) same.0 same.1

  pub last_settled : (xs : List (Position × X)) (p : Position) → last_at (settled xs) p ≡ last_at xs p
  last_settled [] p = refl
  last_settled (x ∷ xs) p = last_under x (settled xs) p ∙ ap (λ (o : Option X). option_or o (here x p)) (last_settled xs p)

  -- what ascends and has the same values is settled
  pub is_settled : (xs ys : List (Position × X)) → IsAscending (map at ys) → ((p : Position) → last_at ys p ≡ last_at xs p) → ys ≡ settled xs
  is_settled xs ys a h = same_cells ys (settled xs) a (ascending_settled xs) (λ p. h p ∙ sym (last_settled xs p))

  -- what ascends stays as it is
  pub settled_same : (xs : List (Position × X)) → IsAscending (map at xs) → xs ≡ settled xs
  settled_same xs a = is_settled xs xs a (λ p. refl)

-- ---- values that are seen in another way

module _ {X Y : Type 0} (content : Position → X → Y) where
  abbrev pub seen : Position × X → Position × Y
  seen c = (c.0, content c.0 c.1)

  pub seen_positions : (xs : List (Position × X)) → map (λ (c : Position × Y). c.0) (map seen xs) ≡ map (λ (c : Position × X). c.0) xs
  seen_positions [] = refl
  seen_positions (x ∷ xs) = ap (λ (l : List Position). x.0 ∷ l) (seen_positions xs)

  seen_here : (x : Position × X) (p : Position) (b : Bool) → ((x.0.0 == p.0) && (x.0.1 == p.1)) ≡ b
      → ◌≡◌ {A = Option Y} (if b then Some (content x.0 x.1) else None) (option_map (content p) (if b then Some x.1 else None))
  seen_here x p true e =
      let same = are_same x.0.0 x.0.1 p.0 p.1 e in
      ap (λ (q : Position). Some (content q x.1)) (same_pair x.0.0 x.0.1 p.0 p.1 same.0 same.1)
    where
      are_same : (a b c d : ℕ) → (a == c && b == d) ≡ true → (a ≡ c) × (b ≡ d)
      are_same a b c d h = grind arith

      same_pair : (a b c d : ℕ) → a ≡ c → b ≡ d → ◌≡◌ {A = Position} (a, b) (c, d)
      same_pair a b c d e f = ap (λ (z : ℕ). (z, b)) e ∙ ap (λ (z : ℕ). (c, z)) f
  seen_here x p false e = refl

  or_seen : (o q : Option X) (p : Position) → option_or (option_map (content p) o) (option_map (content p) q) ≡ option_map (content p) (option_or o q)
  or_seen None q p = refl
  or_seen (Some x) q p = refl

  pub last_seen : (xs : List (Position × X)) (p : Position) → last_at (map seen xs) p ≡ option_map (content p) (last_at xs p)
  last_seen [] p = refl
  last_seen (x ∷ xs) p =
      let t = (x.0.0 == p.0) && (x.0.1 == p.1) in
      ap (λ (o : Option Y). option_or o (if t then Some (content x.0 x.1) else None)) (last_seen xs p)
      ∙ ap (option_or (option_map (content p) (last_at xs p))) (seen_here x p t refl)
      ∙ or_seen (last_at xs p) (if t then Some x.1 else None) p

  pub settled_seen : (xs : List (Position × X)) → map seen (settled xs) ≡ settled (map seen xs)
  settled_seen xs =
      is_settled (map seen xs) (map seen (settled xs))
      (subst IsAscending (sym (seen_positions (settled xs))) (ascending_settled xs))
      (λ p. last_seen (settled xs) p ∙ ap (option_map (content p)) (last_settled xs p) ∙ sym (last_seen xs p))
