-- Dense boxes: their corners, the value that is given last, and another order of the same cells.
use Rattle.std.proofs.Common.{◌≡◌, ◌≢◌, ℕ, zero, suc, ◌+◌, ◌<◌, ◌≤◌, ◌⊎◌, inl, inr, arith, refl, List, [], ◌∷◌, ◌++◌, length, sym, ◌∙◌, ap, get_or, Bool, true, false, Option, Some, None, length-append}
use Rattle.std.specs.Prelude.{◌==◌, ◌&&◌, if◌then◌else◌, All, Any, AllPairs, Contains, IsPermutation}
use Rattle.std.specs.Option.{option_or}
use Rattle.std.specs.Cmp.{IsEquivalence}
use Rattle.std.proofs.lemmas.Bool.{cases_eq, cases_lt, ne_eqb, eq-eqb}
use Rattle.std.proofs.lemmas.List.Elements.{All-cons}
use Rattle.std.proofs.lemmas.List.Sorted.{All-permutation, Contains-permutation, IsPermutation-sym, length_permutation}
use Rattle.std.proofs.Math.Seq.{get_or-append_seam}
use Rattle.xls_range.specs.Grid.{Grid, IsRange, IsIn, IsSameBox, IsCopyOf, cell_at, grid_eq, grid_eq_equiv, no_cells}
use Rattle.xls_range.specs.Sparse.{last_at, IsLeast, IsGreatest, AreCorners, IsDense}
use Rattle.xls_range.specs.Laws.{IsSameCell}
use Rattle.xls_range.proofs.CellLemmas.{cell_there}
use Rattle.xls_range.proofs.EqualLemmas.{grid_eq-AreSame}
use Rattle.xls_range.proofs.GridLemmas.{cell_outside}
use Rattle.xls_range.proofs.GrowthLemmas.{sides}
use Rattle.xls_range.proofs.SparseLemmas.{AreCorners-inside}

-- ---- the corners are there

Any-cons : {X : Type 0} (P : X → Type 0) (x : X) (xs : List X) → Any P xs → Any P (x ∷ xs)
Any-cons P x xs some = (suc some.0, some.1, omega (arith, some.2), some.3, some.4)

Any-head : {X : Type 0} (P : X → Type 0) (x : X) (xs : List X) → P x → Any P (x ∷ xs)
Any-head P x xs h = (0, x, omega arith, refl, h)

least_cons : {X : Type 0} (read : X → ℕ) (x : X) (xs : List X) (n : ℕ) → IsLeast read xs n → (m : ℕ) × IsLeast read (x ∷ xs) m
least_cons read x xs n least = elim (cases_lt (read x) n) [
  | inl less ↦ (
    read x,
    record {
      all = All-cons (λ z. read x ≤ read z) x xs (omega arith) (λ k d p. omega (arith, least.all k d p));
      some = Any-head (λ z. read z ≡ read x) x xs refl;
    },
  )
  | inr rest ↦ (
    n,
    record {
      all = All-cons (λ z. n ≤ read z) x xs rest least.all;
      some = Any-cons (λ z. read z ≡ n) x xs least.some;
    },
  )
]

has_least : {X : Type 0} (read : X → ℕ) (x : X) (xs : List X) → (n : ℕ) × IsLeast read (x ∷ xs) n
has_least read x [] = (
  read x,
  record {
    all = All-cons (λ z. read x ≤ read z) x [] (omega arith) (λ k d p. absurd (omega arith));
    some = Any-head (λ z. read z ≡ read x) x [] refl;
  },
)
has_least read x (y ∷ ys) = let rest = has_least read y ys in least_cons read x (y ∷ ys) rest.0 rest.1

greatest_cons : {X : Type 0} (read : X → ℕ) (x : X) (xs : List X) (n : ℕ) → IsGreatest read xs n → (m : ℕ) × IsGreatest read (x ∷ xs) m
greatest_cons read x xs n greatest = elim (cases_lt (read x) n) [
  | inl less ↦ (
    n,
    record {
      all = All-cons (λ z. read z ≤ n) x xs (omega arith) greatest.all;
      some = Any-cons (λ z. read z ≡ n) x xs greatest.some;
    },
  )
  | inr rest ↦ (
    read x,
    record {
      all = All-cons (λ z. read z ≤ read x) x xs (omega arith) (λ k d p. omega (arith, greatest.all k d p));
      some = Any-head (λ z. read z ≡ read x) x xs refl;
    },
  )
]

has_greatest : {X : Type 0} (read : X → ℕ) (x : X) (xs : List X) → (n : ℕ) × IsGreatest read (x ∷ xs) n
has_greatest read x [] = (
  read x,
  record {
    all = All-cons (λ z. read z ≤ read x) x [] (omega arith) (λ k d p. absurd (omega arith));
    some = Any-head (λ z. read z ≡ read x) x [] refl;
  },
)
has_greatest read x (y ∷ ys) = let rest = has_greatest read y ys in greatest_cons read x (y ∷ ys) rest.0 rest.1

pub has_corners : {T : Type 0} (x : (ℕ × ℕ) × T) (xs : List ((ℕ × ℕ) × T)) → (start : ℕ × ℕ) × (end : ℕ × ℕ) × AreCorners (x ∷ xs) start end
has_corners {T} x xs =
    let row : (ℕ × ℕ) × T → ℕ = λ z. z.0.0 in
    let column : (ℕ × ℕ) × T → ℕ = λ z. z.0.1 in
    let top = has_least row x xs in
    let left = has_least column x xs in
    let bottom = has_greatest row x xs in
    let right = has_greatest column x xs in
    ((top.0, left.0), (bottom.0, right.0), record { top = top.1; left = left.1; bottom = bottom.1; right = right.1 })

-- ---- the value that is given last

at_self : (p : ℕ × ℕ) → ((p.0 == p.0) && (p.1 == p.1)) ≡ true
at_self p = rw (eq-eqb p.0 p.0 refl, eq-eqb p.1 p.1 refl) refl

at_other : (p q : ℕ × ℕ) → p ≢ q → ((p.0 == q.0) && (p.1 == q.1)) ≡ false
at_other p q ne = elim (cases_eq p.0 q.0) [
  | inr far ↦ rw (ne_eqb p.0 q.0 far) refl
  | inl e ↦ elim (cases_eq p.1 q.1) [
    | inr far ↦ rw (eq-eqb p.0 q.0 e, ne_eqb p.1 q.1 far) refl
    | inl f ↦ absurd (ne (λ i. (e i, f i)))
  ]
]

last_at-none : {T : Type 0} (xs : List ((ℕ × ℕ) × T)) (p : ℕ × ℕ) → All (λ y. y.0 ≢ p) xs → last_at xs p ≡ None
last_at-none [] p all = refl
last_at-none (x ∷ xs) p all =
    rw (last_at-none xs p (λ k d q. all (suc k) d (omega arith)), at_other x.0 p (all 0 x (omega arith))) refl

last_at-append : {T : Type 0} (prefix back : List ((ℕ × ℕ) × T)) (x : (ℕ × ℕ) × T) → All (λ y. y.0 ≢ x.0) back → last_at (prefix ++ x ∷ back) x.0 ≡ Some x.1
last_at-append [] back x none = rw (last_at-none back x.0 none, at_self x.0) refl
last_at-append (y ∷ prefix) back x none = rw (last_at-append prefix back x none) refl

split_last : {T : Type 0} (o : Option T) (b : Bool) (u v : T) → option_or o (if b then Some u else None) ≡ Some v → (o ≡ Some v) ⊎ ((b ≡ true) × (u ≡ v))
split_last (Some x) b u v e = inl e
split_last None true u v e = inr (refl, cc)
split_last None false u v e = cc

same_place : (p q : ℕ × ℕ) → ((p.0 == q.0) && (p.1 == q.1)) ≡ true → p ≡ q
same_place p q e = elim (cases_eq p.0 q.0) [
  | inr far ↦ absurd (let f = rw (ne_eqb p.0 q.0 far) at e in cc)
  | inl a ↦ elim (cases_eq p.1 q.1) [
    | inr far ↦ absurd (let f = rw (eq-eqb p.0 q.0 a, ne_eqb p.1 q.1 far) at e in cc)
    | inl b ↦ λ i. (a i, b i)
  ]
]

Contains-last_at : {T : Type 0} (xs : List ((ℕ × ℕ) × T)) (p : ℕ × ℕ) (v : T) → last_at xs p ≡ Some v → Contains xs (p, v)
Contains-last_at [] p v e = cc
Contains-last_at (x ∷ xs) p v e = elim (split_last (last_at xs p) ((x.0.0 == p.0) && (x.0.1 == p.1)) x.1 v e) [
  | inl later ↦ let rest = Contains-last_at xs p v later in (suc rest.0, omega (arith, rest.1), rest.2)
  | inr here ↦ (0, omega arith, λ i. (same_place x.0 p here.0 i, here.1 i))
]

not_none : {T : Type 0} (xs : List ((ℕ × ℕ) × T)) (p : ℕ × ℕ) (v : T) (k : ℕ) → k < length xs → get_or xs k (p, v) ≡ (p, v) → last_at xs p ≡ None → ⊥
not_none [] p v k near e none = absurd (omega arith)
not_none (x ∷ xs) p v zero near e none =
    let place : x.0 ≡ p = ap (λ z. z.0) e in
    let here : ((x.0.0 == p.0) && (x.0.1 == p.1)) ≡ true = rw place (at_self p) in
    never (last_at xs p) x.1 (rw here at none)
  where
    never : {T : Type 0} (o : Option T) (u : T) → option_or o (Some u) ≡ None → ⊥
    never (Some w) u e = cc
    never None u e = cc
not_none (x ∷ xs) p v (suc k) near e none =
    not_none xs p v k (omega arith) e (first (last_at xs p) _ none)
  where
    first : {T : Type 0} (o other : Option T) → option_or o other ≡ None → o ≡ None
    first (Some w) other e = cc
    first None other e = refl

last_at-distinct : {T : Type 0} (xs : List ((ℕ × ℕ) × T)) (p : ℕ × ℕ) (v : T) (k : ℕ) → AllPairs (λ x y. x.0 ≢ y.0) xs → k < length xs → get_or xs k (p, v) ≡ (p, v) → last_at xs p ≡ Some v
last_at-distinct [] p v k distinct near e = absurd (omega arith)
last_at-distinct (x ∷ xs) p v zero distinct near e =
    let place : x.0 ≡ p = ap (λ z. z.0) e in
    let value : x.1 ≡ v = ap (λ z. z.1) e in
    let later : All (λ y. y.0 ≢ p) xs = λ j d q same. distinct 0 (suc j) d (omega arith) (omega arith) (place ∙ sym same) in
    let here : ((x.0.0 == p.0) && (x.0.1 == p.1)) ≡ true = rw place (at_self p) in
    rw (last_at-none xs p later, here, value) refl
last_at-distinct (x ∷ xs) p v (suc k) distinct near e =
    rw (last_at-distinct xs p v k (λ i j d a b. distinct (suc i) (suc j) d (omega arith) (omega arith)) (omega arith) e) refl

-- another order of distinct positions gives each position the same value
pub last_at-permutation : {T : Type 0} (xs ys : List ((ℕ × ℕ) × T)) (p : ℕ × ℕ) → AllPairs (λ x y. x.0 ≢ y.0) xs → IsPermutation xs ys → last_at xs p ≡ last_at ys p
last_at-permutation {T} xs ys p distinct order = go (last_at xs p) (last_at ys p) refl refl
  where
    go : (o o' : Option T) → last_at xs p ≡ o → last_at ys p ≡ o' → last_at xs p ≡ last_at ys p
    go None None e f = e ∙ sym f
    go (Some v) None e f =
        let there = Contains-permutation xs ys (p, v) order (Contains-last_at xs p v e) in
        absurd (not_none ys p v there.0 there.1 there.2 f)
    go None (Some w) e f =
        let here = Contains-permutation ys xs (p, w) (IsPermutation-sym xs ys order) (Contains-last_at ys p w f) in
        absurd (not_none xs p w here.0 here.1 here.2 e)
    go (Some v) (Some w) e f =
        let here = Contains-permutation ys xs (p, w) (IsPermutation-sym xs ys order) (Contains-last_at ys p w f) in
        last_at-distinct xs p w here.0 distinct here.1 here.2 ∙ sym f

-- ---- the laws

pub last_wins : {T : Type 0} (eq : T → T → Bool) (blank : T → Bool) (prefix back : List ((ℕ × ℕ) × T)) (x : (ℕ × ℕ) × T) (g : Grid T)
    → All (λ y. y.0 ≢ x.0) back → IsRange g → IsDense eq blank (prefix ++ x ∷ back) g → (y : T) × (cell_at g x.0.0 x.0.1 ≡ Some y) × (eq x.1 y ≡ true)
last_wins {T} eq blank prefix back x g none is dense =
    let corners = some_corners (prefix ++ x ∷ back) (omega (arith, length-append prefix (x ∷ back))) in
    let inside = AreCorners-inside (prefix ++ x ∷ back) corners.0 corners.1 g corners.2 (dense.corners corners.0 corners.1 corners.2) (length prefix) x (omega (arith, length-append prefix (x ∷ back))) in
    let here : IsIn g x.0.0 x.0.1 = rw (get_or-append_seam prefix x back x) at inside in
    let cell = cell_there g x.0.0 x.0.1 is.count here in
    (cell.0, cell.1, rw (last_at-append prefix back x none) at (dense.shows.displayed x.0.0 x.0.1 cell.0 cell.1))
  where
    some_corners : (xs : List ((ℕ × ℕ) × T)) → 0 < length xs → (start : ℕ × ℕ) × (end : ℕ × ℕ) × AreCorners xs start end
    some_corners [] p = absurd (omega arith)
    some_corners (y ∷ ys) p = has_corners y ys

copies_equal : {T : Type 0} (eq : T → T → Bool) (blank : T → Bool) → IsEquivalence eq → ((x y : T) → blank x ≡ true → blank y ≡ eq x y) → (o : Option T) (y z : T) → IsCopyOf eq blank o y → IsCopyOf eq blank o z → eq y z ≡ true
copies_equal eq blank laws exactly None y z a b = sym (exactly y z a) ∙ b
copies_equal eq blank laws exactly (Some x) y z a b = sym (laws.congr x y z a) ∙ b

Any-permutation : {X : Type 0} (P : X → Type 0) (xs ys : List X) → IsPermutation xs ys → Any P xs → Any P ys
Any-permutation P xs ys order some =
    let there = Contains-permutation xs ys some.1 order (some.0, some.2, some.3) in
    (there.0, some.1, there.1, there.2, some.4)

AreCorners-permutation : {T : Type 0} (xs ys : List ((ℕ × ℕ) × T)) (s e : ℕ × ℕ) → IsPermutation xs ys → AreCorners xs s e → AreCorners ys s e
AreCorners-permutation xs ys s e order a = record {
  top = record { all = All-permutation (λ x. s.0 ≤ x.0.0) xs ys order a.top.all; some = Any-permutation (λ x. x.0.0 ≡ s.0) xs ys order a.top.some };
  left = record { all = All-permutation (λ x. s.1 ≤ x.0.1) xs ys order a.left.all; some = Any-permutation (λ x. x.0.1 ≡ s.1) xs ys order a.left.some };
  bottom = record { all = All-permutation (λ x. x.0.0 ≤ e.0) xs ys order a.bottom.all; some = Any-permutation (λ x. x.0.0 ≡ e.0) xs ys order a.bottom.some };
  right = record { all = All-permutation (λ x. x.0.1 ≤ e.1) xs ys order a.right.all; some = Any-permutation (λ x. x.0.1 ≡ e.1) xs ys order a.right.some };
}

same_displayed : {T : Type 0} (eq : T → T → Bool) (blank : T → Bool) → IsEquivalence eq → ((x y : T) → blank x ≡ true → blank y ≡ eq x y)
    → (input others : List ((ℕ × ℕ) × T)) (g h : Grid T) → ((p : ℕ × ℕ) → last_at input p ≡ last_at others p) → IsSameBox g h → IsRange g → IsRange h
    → IsDense eq blank input g → IsDense eq blank others h → (r c : ℕ) → IsSameCell eq (cell_at g r c) (cell_at h r c)
same_displayed eq blank laws exactly input others g h last same is also a b r c = elim (sides g r c) [
  | inl i ↦
      let here : IsIn g r c = record { low = i.0; high = i.1; left = i.2; right = i.3 } in
      let there : IsIn h r c = record { low = omega (arith, same.top); high = omega (arith, same.top, same.height); left = omega (arith, same.left); right = omega (arith, same.left, same.width) } in
      let y = cell_there g r c is.count here in
      let z = cell_there h r c also.count there in
      rw (y.1, z.1) (copies_equal eq blank laws exactly (last_at others (r, c)) y.0 z.0 (rw (last (r, c)) at (a.shows.displayed r c y.0 y.1)) (b.shows.displayed r c z.0 z.1))
  | inr o ↦
      let beside : (r < h.top) ⊎ ((h.top + h.height ≤ r) ⊎ ((c < h.left) ⊎ (h.left + h.width ≤ c))) = rw (same.top, same.height, same.left, same.width) o in
      rw (cell_outside g r c o, cell_outside h r c beside) tt
]

nil_from_length : {X : Type 0} (xs : List X) → length xs ≡ 0 → xs ≡ []
nil_from_length [] e = refl
nil_from_length (x ∷ xs) e = absurd (omega arith)

pub dense_in_any_order : {T : Type 0} (eq : T → T → Bool) (blank : T → Bool) → IsEquivalence eq → ((x y : T) → blank x ≡ true → blank y ≡ eq x y)
    → (input others : List ((ℕ × ℕ) × T)) (g h : Grid T) → AllPairs (λ x y. x.0 ≢ y.0) input → IsPermutation input others → IsRange g → IsRange h
    → IsDense eq blank input g → IsDense eq blank others h → grid_eq eq g h ≡ true
dense_in_any_order eq blank laws exactly [] others g h distinct order is also a b =
    let none = nil_from_length others (length_permutation [] others order) in
    rw (a.empty refl, b.empty none) ((grid_eq_equiv laws).refl no_cells)
dense_in_any_order eq blank laws exactly (x ∷ xs) others g h distinct order is also a b =
    let corners = has_corners x xs in
    let mine = a.corners corners.0 corners.1 corners.2 in
    let theirs = b.corners corners.0 corners.1 (AreCorners-permutation (x ∷ xs) others corners.0 corners.1 order corners.2) in
    let top : h.top ≡ g.top = theirs.top ∙ sym mine.top in
    let left : h.left ≡ g.left = theirs.left ∙ sym mine.left in
    let same : IsSameBox g h = record { top = top; left = left; height = omega (arith, mine.bottom, theirs.bottom); width = omega (arith, mine.right, theirs.right) } in
    grid_eq-AreSame eq g h is also (record {
      start = rw (same.top, same.left, same.height) refl;
      end = rw (same.top, same.left, same.height, same.width) refl;
      cells = same_displayed eq blank laws exactly (x ∷ xs) others g h (λ p. last_at-permutation (x ∷ xs) others p distinct order) same is also a b;
    })
