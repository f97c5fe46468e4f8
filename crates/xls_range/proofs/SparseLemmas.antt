-- The box of cells that are given with their positions, and what is written into it.
use Rattle.std.proofs.Common.{◌≡◌, ℕ, ◌+◌, ◌-◌, ◌*◌, ◌^◌, ◌<◌, ◌≤◌, inl, inr, arith, refl, List, [], ◌∷◌, ◌++◌, length, take, sym, ◌∙◌, ap, get_or, Bool, true, false, Option, Some, None}
use Rattle.std.specs.Prelude.{◌==◌, ◌&&◌, if◌then◌else◌, All, min, max}
use Rattle.std.specs.Option.{option_or}
use Rattle.std.proofs.Math.Seq.{get_or-append_seam}
use Rattle.std.proofs.lemmas.Bool.{cases_lt}
use Rattle.std.proofs.lemmas.List.{append_assoc, get_or_default, length-append, take_more}
use Rattle.std.proofs.lemmas.Nat.{mul-le}
use Rattle.std.proofs.lemmas.Option.{get_or_from_slice_get, slice_get_within}
use Rattle.xls_range.specs.Grid.{Grid, no_cells, cell_at, IsCopyOf, Shows, IsIn, IsOfCorners, AreOrderedCorners, IsSameBox, count_between}
use Rattle.xls_range.specs.Boxes.{IsBlankBox}
use Rattle.xls_range.specs.Sparse.{last_at, IsLeast, IsGreatest, AreCorners, IsTooLarge, IsDense}
use Rattle.xls_range.proofs.GrowthLemmas.{there}

-- one more cell counts before those that were given
pub last_at-snoc : {T : Type 0} (xs : List ((ℕ × ℕ) × T)) (x : (ℕ × ℕ) × T) (p : ℕ × ℕ)
    → last_at (xs ++ x ∷ []) p ≡ (if (x.0.0 == p.0) && (x.0.1 == p.1) then Some x.1 else last_at xs p)
last_at-snoc [] x p = refl
last_at-snoc (y ∷ xs) x p =
    let other = if (y.0.0 == p.0) && (y.0.1 == p.1) then Some y.1 else None in
    ap (λ o. option_or o other) (last_at-snoc xs x p)
    ∙ elim ((x.0.0 == p.0) && (x.0.1 == p.1)) as (λ b. option_or (if b then Some x.1 else last_at xs p) other ≡ (if b then Some x.1 else option_or (last_at xs p) other)) [ true ↦ refl | false ↦ refl ]

-- where a copy is written, it is what stands for the value
pub copy_chosen : {T : Type 0} (eq : T → T → Bool) (blank : T → Bool) (b : Bool) (value copy y : T) (last o : Option T)
    → eq value copy ≡ true → (if b then Some copy else o) ≡ Some y → (o ≡ Some y → IsCopyOf eq blank last y)
    → IsCopyOf eq blank (if b then Some value else last) y
copy_chosen eq blank true value copy y last o same e rest =
    let here : copy ≡ y = cc in
    rw here at same
copy_chosen eq blank false value copy y last o same e rest = rest e

pub Shows-put : {T : Type 0} (eq : T → T → Bool) (blank : T → Bool) (xs : List ((ℕ × ℕ) × T)) (x : (ℕ × ℕ) × T) (copy : T) (g new : Grid T)
    → eq x.1 copy ≡ true → ((r c : ℕ) → cell_at new r c ≡ (if (x.0.0 == r) && (x.0.1 == c) then Some copy else cell_at g r c))
    → Shows eq blank (λ row column. last_at xs (row, column)) g
    → Shows eq blank (λ row column. last_at (xs ++ x ∷ []) (row, column)) new
Shows-put eq blank xs x copy g new same written shows = record {
  displayed = λ r c y is. rw (last_at-snoc xs x (r, c))
      (copy_chosen eq blank ((x.0.0 == r) && (x.0.1 == c)) x.1 copy y (last_at xs (r, c)) (cell_at g r c) same (sym (written r c) ∙ is) (shows.displayed r c y));
}

-- the step of a loop that writes the cells in order
pub Shows-more : {T : Type 0} (eq : T → T → Bool) (blank : T → Bool) (input : List ((ℕ × ℕ) × T)) (k : ℕ) (x : (ℕ × ℕ) × T) (copy : T) (g new : Grid T)
    → k < length input → x ≡ get_or input k x → eq x.1 copy ≡ true
    → ((r c : ℕ) → cell_at new r c ≡ (if (x.0.0 == r) && (x.0.1 == c) then Some copy else cell_at g r c))
    → Shows eq blank (λ row column. last_at (take k input) (row, column)) g
    → Shows eq blank (λ row column. last_at (take (k + 1) input) (row, column)) new
Shows-more eq blank input k x copy g new near item same written shows =
    let more : take (k + 1) input ≡ take k input ++ x ∷ [] = take_more input k x near ∙ ap (λ z. take k input ++ z ∷ []) (sym item) in
    rw more (Shows-put eq blank (take k input) x copy g new same written shows)

-- nothing is given yet, and all is blank
pub Shows-blank : {T : Type 0} (eq : T → T → Bool) (blank : T → Bool) (g : Grid T) → All (λ x. blank x ≡ true) g.cells → Shows eq blank (λ _ _. None) g
Shows-blank eq blank g all = record {
  displayed = λ r c y is.
      let t = there g r c y is in
      rw (get_or_from_slice_get g.cells _ y y t.read) at (all _ y (slice_get_within g.cells _ y t.read));
}

-- the least and the greatest of the first k numbers
pub record IsLeastTo {X : Type 0} (read : X → ℕ) (xs : List X) (k n : ℕ) : Type 0 where
  pub all : (j : ℕ) (d : X) → j < k → n ≤ read (get_or xs j d)
  pub some : (i : ℕ) × (x : X) × (i < length xs) × (get_or xs i x ≡ x) × (read x ≡ n)

pub record IsGreatestTo {X : Type 0} (read : X → ℕ) (xs : List X) (k n : ℕ) : Type 0 where
  pub all : (j : ℕ) (d : X) → j < k → read (get_or xs j d) ≤ n
  pub some : (i : ℕ) × (x : X) × (i < length xs) × (get_or xs i x ≡ x) × (read x ≡ n)

pub IsLeastTo-zero : {X : Type 0} (read : X → ℕ) (xs : List X) (x : X) → 0 < length xs → x ≡ get_or xs 0 x → IsLeastTo read xs 0 (read x)
IsLeastTo-zero read xs x near item = record { all = λ j d p. absurd (omega arith); some = (0, x, near, sym item, refl) }

pub IsGreatestTo-zero : {X : Type 0} (read : X → ℕ) (xs : List X) (x : X) → 0 < length xs → x ≡ get_or xs 0 x → IsGreatestTo read xs 0 (read x)
IsGreatestTo-zero read xs x near item = record { all = λ j d p. absurd (omega arith); some = (0, x, near, sym item, refl) }

pub IsLeastTo-suc : {X : Type 0} (read : X → ℕ) (xs : List X) (k n : ℕ) (x : X) → k < length xs → x ≡ get_or xs k x
    → IsLeastTo read xs k n → IsLeastTo read xs (k + 1) (min n (read x))
IsLeastTo-suc read xs k n x near item least = record {
  all = λ j d p. elim (cases_lt j k) [
    | inl before ↦ omega (arith, least.all j d before)
    | inr from ↦
        let here : j ≡ k = omega arith in
        let same : get_or xs k d ≡ x = get_or_default xs k d x near ∙ sym item in
        rw (here, same) (omega arith)
  ];
  some = elim (cases_lt n (read x)) [
    | inl less ↦
        let e : n ≡ min n (read x) = omega arith in
        (least.some.0, least.some.1, least.some.2, least.some.3, least.some.4 ∙ e)
    | inr rest ↦
        let e : read x ≡ min n (read x) = omega arith in
        (k, x, near, sym item, e)
  ];
}

pub IsGreatestTo-suc : {X : Type 0} (read : X → ℕ) (xs : List X) (k n : ℕ) (x : X) → k < length xs → x ≡ get_or xs k x
    → IsGreatestTo read xs k n → IsGreatestTo read xs (k + 1) (max n (read x))
IsGreatestTo-suc read xs k n x near item greatest = record {
  all = λ j d p. elim (cases_lt j k) [
    | inl before ↦ omega (arith, greatest.all j d before)
    | inr from ↦
        let here : j ≡ k = omega arith in
        let same : get_or xs k d ≡ x = get_or_default xs k d x near ∙ sym item in
        rw (here, same) (omega arith)
  ];
  some = elim (cases_lt n (read x)) [
    | inl less ↦
        let e : read x ≡ max n (read x) = omega arith in
        (k, x, near, sym item, e)
    | inr rest ↦
        let e : n ≡ max n (read x) = omega arith in
        (greatest.some.0, greatest.some.1, greatest.some.2, greatest.some.3, greatest.some.4 ∙ e)
  ];
}

-- the corners of the first k positions
pub record AreCornersTo {T : Type 0} (input : List ((ℕ × ℕ) × T)) (k t l b r : ℕ) : Type 0 where
  pub top : IsLeastTo (λ x. x.0.0) input k t
  pub left : IsLeastTo (λ x. x.0.1) input k l
  pub bottom : IsGreatestTo (λ x. x.0.0) input k b
  pub right : IsGreatestTo (λ x. x.0.1) input k r

pub AreCornersTo-zero : {T : Type 0} (input : List ((ℕ × ℕ) × T)) (x : (ℕ × ℕ) × T) → 0 < length input → x ≡ get_or input 0 x
    → AreCornersTo input 0 x.0.0 x.0.1 x.0.0 x.0.1
AreCornersTo-zero input x near item = record {
  top = IsLeastTo-zero _ input x near item;
  left = IsLeastTo-zero _ input x near item;
  bottom = IsGreatestTo-zero _ input x near item;
  right = IsGreatestTo-zero _ input x near item;
}

pub AreCornersTo-suc : {T : Type 0} (input : List ((ℕ × ℕ) × T)) (k top left bottom right : ℕ) (x : (ℕ × ℕ) × T) → k < length input → x ≡ get_or input k x
    → AreCornersTo input k top left bottom right → AreCornersTo input (k + 1) (min top x.0.0) (min left x.0.1) (max bottom x.0.0) (max right x.0.1)
AreCornersTo-suc input k top left bottom right x near item to = record {
  top = IsLeastTo-suc (λ x. x.0.0) input k top x near item to.top;
  left = IsLeastTo-suc (λ x. x.0.1) input k left x near item to.left;
  bottom = IsGreatestTo-suc (λ x. x.0.0) input k bottom x near item to.bottom;
  right = IsGreatestTo-suc (λ x. x.0.1) input k right x near item to.right;
}

pub AreCorners-all : {T : Type 0} (input : List ((ℕ × ℕ) × T)) (k top left bottom right : ℕ) → length input ≤ k → AreCornersTo input k top left bottom right
    → AreCorners input (top, left) (bottom, right)
AreCorners-all input k top left bottom right long to = record {
  top = record { all = λ j d p. to.top.all j d (omega arith); some = to.top.some };
  left = record { all = λ j d p. to.left.all j d (omega arith); some = to.left.some };
  bottom = record { all = λ j d p. to.bottom.all j d (omega arith); some = to.bottom.some };
  right = record { all = λ j d p. to.right.all j d (omega arith); some = to.right.some };
}

-- the least of the same numbers is one number, and so is the greatest
pub IsLeast-unique : {X : Type 0} (read : X → ℕ) (xs : List X) (m n : ℕ) → IsLeast read xs m → IsLeast read xs n → m ≡ n
IsLeast-unique read xs m n a b =
    let low : m ≤ read (get_or xs b.some.0 b.some.1) = a.all b.some.0 b.some.1 b.some.2 in
    let high : n ≤ read (get_or xs a.some.0 a.some.1) = b.all a.some.0 a.some.1 a.some.2 in
    let e : m ≤ n = omega (arith, rw (b.some.3, b.some.4) at low) in
    let f : n ≤ m = omega (arith, rw (a.some.3, a.some.4) at high) in
    omega (arith, e, f)

pub IsGreatest-unique : {X : Type 0} (read : X → ℕ) (xs : List X) (m n : ℕ) → IsGreatest read xs m → IsGreatest read xs n → m ≡ n
IsGreatest-unique read xs m n a b =
    let low : read (get_or xs b.some.0 b.some.1) ≤ m = a.all b.some.0 b.some.1 b.some.2 in
    let high : read (get_or xs a.some.0 a.some.1) ≤ n = b.all a.some.0 a.some.1 a.some.2 in
    let e : n ≤ m = omega (arith, rw (b.some.3, b.some.4) at low) in
    let f : m ≤ n = omega (arith, rw (a.some.3, a.some.4) at high) in
    omega (arith, e, f)

-- the least is not above the greatest
pub least-le-greatest : {X : Type 0} (read : X → ℕ) (xs : List X) (m n : ℕ) → IsLeast read xs m → IsGreatest read xs n → m ≤ n
least-le-greatest read xs m n a b =
    let low : m ≤ read (get_or xs b.some.0 b.some.1) = a.all b.some.0 b.some.1 b.some.2 in
    rw (b.some.3, b.some.4) at low

-- two pairs of corners of the same positions are the same
pub record AreSameCorners (s e s' e' : ℕ × ℕ) : Type 0 where
  pub top : s.0 ≡ s'.0
  pub left : s.1 ≡ s'.1
  pub bottom : e.0 ≡ e'.0
  pub right : e.1 ≡ e'.1

pub AreCorners-unique : {T : Type 0} (input : List ((ℕ × ℕ) × T)) (s e s' e' : ℕ × ℕ) → AreCorners input s e → AreCorners input s' e' → AreSameCorners s e s' e'
AreCorners-unique input s e s' e' a b = record {
  top = IsLeast-unique (λ x. x.0.0) input s.0 s'.0 a.top b.top;
  left = IsLeast-unique (λ x. x.0.1) input s.1 s'.1 a.left b.left;
  bottom = IsGreatest-unique (λ x. x.0.0) input e.0 e'.0 a.bottom b.bottom;
  right = IsGreatest-unique (λ x. x.0.1) input e.1 e'.1 a.right b.right;
}

pub AreCorners-ordered : {T : Type 0} (input : List ((ℕ × ℕ) × T)) (s e : ℕ × ℕ) → AreCorners input s e → AreOrderedCorners s e
AreCorners-ordered input s e a =
    (least-le-greatest (λ x. x.0.0) input s.0 e.0 a.top a.bottom, least-le-greatest (λ x. x.0.1) input s.1 e.1 a.left a.right)

-- the smallest box is too large by its own corners, whichever show it
pub IsTooLarge-corners : {T : Type 0} (input : List ((ℕ × ℕ) × T)) (s e : ℕ × ℕ) → AreCorners input s e → IsTooLarge input → 2 ^ 64 ≤ count_between s e
IsTooLarge-corners input s e a large =
    let same = AreCorners-unique input s e large.0 large.1 a large.2 in
    rw (same.top, same.left, same.bottom, same.right) large.3

-- a range with those corners holds the positions
pub AreCorners-inside : {T : Type 0} (input : List ((ℕ × ℕ) × T)) (s e : ℕ × ℕ) (g : Grid T) → AreCorners input s e → IsOfCorners s e g → All (λ x. IsIn g x.0.0 x.0.1) input
AreCorners-inside input s e g a corners k d p = record {
  low = omega (arith, corners.top, a.top.all k d p);
  high = omega (arith, corners.bottom, a.bottom.all k d p);
  left = omega (arith, corners.left, a.left.all k d p);
  right = omega (arith, corners.right, a.right.all k d p);
}

pub IsOfCorners-same : {T : Type 0} (s e : ℕ × ℕ) (g h : Grid T) → IsOfCorners s e g → IsSameBox g h → IsOfCorners s e h
IsOfCorners-same s e g h corners same = record {
  top = same.top ∙ corners.top;
  left = same.left ∙ corners.left;
  bottom = omega (arith, same.top, same.height, corners.bottom);
  right = omega (arith, same.left, same.width, corners.right);
}

-- the dense box of no cells, and of some
pub IsDense-nil : {T : Type 0} (eq : T → T → Bool) (blank : T → Bool) → IsDense eq blank [] no_cells
IsDense-nil eq blank = record {
  empty = λ _. refl;
  corners = λ s e a. absurd (omega (arith, a.top.some.2));
  shows = Shows-blank eq blank no_cells (λ k d p. absurd (omega arith));
}

pub IsDense-some : {T : Type 0} (eq : T → T → Bool) (blank : T → Bool) (input : List ((ℕ × ℕ) × T)) (s e : ℕ × ℕ) (g : Grid T)
    → AreCorners input s e → IsOfCorners s e g → Shows eq blank (λ row column. last_at input (row, column)) g → IsDense eq blank input g
IsDense-some eq blank input s e g a corners shows = record {
  empty = λ none. absurd (let long : 0 < length input = omega (arith, a.top.some.2) in let short : length input ≡ 0 = ap length none in omega arith);
  corners = λ s' e' b.
      let same = AreCorners-unique input s e s' e' a b in
      record {
        top = corners.top ∙ same.top;
        left = corners.left ∙ same.left;
        bottom = corners.bottom ∙ ap (λ n. n + 1) same.bottom;
        right = corners.right ∙ ap (λ n. n + 1) same.right;
      };
  shows = shows;
}

-- ---- a blank box

pub IsBlankBox-inside : {T : Type 0} (blank : T → Bool) (input : List ((ℕ × ℕ) × T)) (g : Grid T) → IsBlankBox blank input g → All (λ x. IsIn g x.0.0 x.0.1) input
IsBlankBox-inside blank input g box = AreCorners-inside input box.start box.end g box.are box.corners

-- with the cells in it, it is the dense box
pub IsBlankBox-filled : {T : Type 0} (eq : T → T → Bool) (blank : T → Bool) (input : List ((ℕ × ℕ) × T)) (g h : Grid T)
    → IsBlankBox blank input g → IsSameBox g h → Shows eq blank (λ row column. last_at input (row, column)) h → IsDense eq blank input h
IsBlankBox-filled eq blank input g h box same shows =
    IsDense-some eq blank input box.start box.end h box.are (IsOfCorners-same box.start box.end g h box.corners same) shows

-- some of the cells are in it, and the others are left
pub record Holds {T : Type 0} (eq : T → T → Bool) (blank : T → Bool) (input rest : List ((ℕ × ℕ) × T)) (g h : Grid T) : Type 0 where
  pub prefix : List ((ℕ × ℕ) × T)
  pub whole : prefix ++ rest ≡ input
  pub same : IsSameBox g h
  pub shows : Shows eq blank (λ row column. last_at prefix (row, column)) h

-- the next cell's position is inside
pub Holds-inside : {T : Type 0} (eq : T → T → Bool) (blank : T → Bool) (input rest : List ((ℕ × ℕ) × T)) (x : (ℕ × ℕ) × T) (g h : Grid T)
    → All (λ y. IsIn g y.0.0 y.0.1) input → Holds eq blank input (x ∷ rest) g h → IsIn h x.0.0 x.0.1
Holds-inside eq blank input rest x g h all holds =
    let read : get_or input (length holds.prefix) x ≡ x = ap (λ xs. get_or xs (length holds.prefix) x) (sym holds.whole) ∙ get_or-append_seam holds.prefix x rest x in
    let near : length holds.prefix < length input = omega (arith, ap length holds.whole, length-append holds.prefix (x ∷ rest)) in
    let is = rw read at (all (length holds.prefix) x near) in
    let same = holds.same in
    record {
      low = omega (arith, is.low, same.top);
      high = omega (arith, is.high, same.top, same.height);
      left = omega (arith, is.left, same.left);
      right = omega (arith, is.right, same.left, same.width);
    }

pub Holds-more : {T : Type 0} (eq : T → T → Bool) (blank : T → Bool) (input rest : List ((ℕ × ℕ) × T)) (x : (ℕ × ℕ) × T) (g h new : Grid T)
    → ((y : T) → eq y y ≡ true)
    → ((r c : ℕ) → cell_at new r c ≡ (if (x.0.0 == r) && (x.0.1 == c) then Some x.1 else cell_at h r c)) → IsSameBox h new
    → Holds eq blank input (x ∷ rest) g h → Holds eq blank input rest g new
Holds-more eq blank input rest x g h new reflexive written is holds =
    let was = holds.same in
    record {
      prefix = holds.prefix ++ x ∷ [];
      whole = append_assoc holds.prefix (x ∷ []) rest ∙ holds.whole;
      same = record { top = is.top ∙ was.top; left = is.left ∙ was.left; height = is.height ∙ was.height; width = is.width ∙ was.width };
      shows = Shows-put eq blank holds.prefix x x.1 h new (reflexive x.1) written holds.shows;
    }

-- positions below a number of rows and of columns span no more cells than these
pub IsTooLarge-within : {T : Type 0} (input : List ((ℕ × ℕ) × T)) (rows columns : ℕ) → All (λ x. (x.0.0 < rows) × (x.0.1 < columns)) input → IsTooLarge input → 2 ^ 64 ≤ rows * columns
IsTooLarge-within input rows columns below large =
    let start = large.0 in
    let end = large.1 in
    let bottom = large.2.bottom.some in
    let right = large.2.right.some in
    let low : bottom.1.0.0 < rows = (rw bottom.3 at (below bottom.0 bottom.1 bottom.2)).0 in
    let far : right.1.0.1 < columns = (rw right.3 at (below right.0 right.1 right.2)).1 in
    let height : end.0 + 1 - start.0 ≤ rows = omega (arith, bottom.4) in
    let width : end.1 + 1 - start.1 ≤ columns = omega (arith, right.4) in
    let all : count_between start end ≤ rows * columns = mul-le (end.0 + 1 - start.0) (end.1 + 1 - start.1) rows columns height width in
    omega (arith, all, large.3)
