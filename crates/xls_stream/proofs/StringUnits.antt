-- Units and bytes over marks, one step after the other.
use Rattle.std.proofs.Common.{◌≡◌, ℕ, zero, suc, ◌+◌, ◌-◌, ◌*◌, ◌<◌, ◌≤◌, map, Bool, true, false, List, [], ◌∷◌, ◌++◌, length, drop, Option, Some, None, refl, sym, ap, append_assoc, arith}
use Rattle.std.proofs.lemmas.List.{append-nil}
use Rattle.xls_stream.specs.StringTable.{Mark, weight, marked, is_wide, with_unit, units_at, tail_at, prefix_of}

-- units read before, and what reading on gives
abbrev pub with_prefix : List ℕ → Option (List ℕ × List Mark) → Option (List ℕ × List Mark)
with_prefix us None = None
with_prefix us (Some x) = Some (us ++ x.0, x.1)

pub record UnitsSoFar (total : Option (List ℕ × List Mark)) (old now : List ℕ) (left : ℕ) (wide : Bool) (text : List Mark) : Type 0 where
  pub units : List ℕ
  pub items : now ≡ old ++ units
  pub same : with_prefix units (units_at left wide text) ≡ total

pub regroup : (us : List ℕ) (u : ℕ) (r : Option (List ℕ × List Mark)) → with_prefix us (with_unit u r) ≡ with_prefix (us ++ u ∷ []) r
regroup us u None = refl
regroup us u (Some x) = ap (λ (v : List ℕ). Some (v, x.1)) (sym (append_assoc us (u ∷ []) x.0))

prefix_nil : (r : Option (List ℕ × List Mark)) → with_prefix [] r ≡ r
prefix_nil None = refl
prefix_nil (Some x) = refl

pub units_none : (old : List ℕ) (left : ℕ) (wide : Bool) (text : List Mark) → UnitsSoFar (units_at left wide text) old old left wide text
units_none old left wide text = record { units = []; items = sym (append-nil old); same = prefix_nil (units_at left wide text) }

pub unit_at_narrow : (n b : ℕ) (ms : List Mark) → units_at (suc n) false (Some b ∷ ms) ≡ with_unit b (units_at n false ms)
unfolding units_at
unit_at_narrow n b ms = refl

pub unit_at_wide : (n b c : ℕ) (ms : List Mark) → units_at (suc n) true (Some b ∷ Some c ∷ ms) ≡ with_unit (b + 256 * c) (units_at n true ms)
unfolding units_at
unit_at_wide n b c ms = refl

pub unit_at_mark : (n flags : ℕ) (wide : Bool) (ms : List Mark) → units_at (suc n) wide (None ∷ Some flags ∷ ms) ≡ units_at (suc n) (is_wide flags) ms
unfolding units_at
unit_at_mark n flags true ms = refl
unit_at_mark n flags false ms = refl

-- ---- bytes whose marks don't count

pub tail_over_byte : (k b : ℕ) (ms : List Mark) → tail_at (suc k) (Some b ∷ ms) ≡ tail_at k ms
unfolding tail_at
tail_over_byte k b ms = refl

pub tail_over_mark : (k : ℕ) (ms : List Mark) → 0 < k → tail_at k (None ∷ ms) ≡ tail_at k ms
unfolding tail_at
tail_over_mark zero ms some = absurd (omega arith)
tail_over_mark (suc k) ms some = refl

pub no_tail : (k : ℕ) → 0 < k → tail_at k [] ≡ None
unfolding tail_at
no_tail zero some = absurd (omega arith)
no_tail (suc k) some = refl

pub tail_done : (ms : List Mark) → tail_at 0 ms ≡ Some ms
unfolding tail_at
tail_done ms = refl

-- ---- the bytes before the next mark

pub prefix-marked : (hand : List ℕ) (pieces : List (List ℕ)) → prefix_of (marked hand pieces) ≡ hand
prefix-marked [] [] = refl
prefix-marked [] (p ∷ ps) = refl
prefix-marked (b ∷ bs) pieces = ap (λ (x : List ℕ). b ∷ x) (prefix-marked bs pieces)

pub drop-marked : (k : ℕ) (hand : List ℕ) (pieces : List (List ℕ)) → k ≤ length hand → drop k (marked hand pieces) ≡ marked (drop k hand) pieces
drop-marked zero hand pieces h = refl
drop-marked (suc k) [] pieces h = absurd (omega arith)
drop-marked (suc k) (b ∷ bs) pieces h = drop-marked k bs pieces (omega arith)

pub nothing_marked : (hand : List ℕ) (pieces : List (List ℕ)) → marked hand pieces ≡ [] → (hand ≡ []) × (pieces ≡ [])
nothing_marked [] [] e = (refl, refl)
nothing_marked [] (p ∷ ps) e = absurd cc
nothing_marked (b ∷ bs) pieces e = absurd cc

-- ---- reading leaves fewer

abbrev pub Leaves : Option (List ℕ × List Mark) → ℕ → Type 0
Leaves None n = Unit {0}
Leaves (Some x) n = weight x.1 ≤ n

with_unit_leaves : (u : ℕ) (r : Option (List ℕ × List Mark)) (m n : ℕ) → Leaves r m → m ≤ n → Leaves (with_unit u r) n
with_unit_leaves u None m n h le = tt
with_unit_leaves u (Some x) m n h le = omega arith

leaves_more : (r : Option (List ℕ × List Mark)) (m n : ℕ) → Leaves r m → m ≤ n → Leaves r n
leaves_more None m n h le = tt
leaves_more (Some x) m n h le = omega arith

pub units_leave : (n : ℕ) (wide : Bool) (ms : List Mark) → Leaves (units_at n wide ms) (weight ms)
unfolding units_at
units_leave zero wide ms = omega arith
units_leave (suc n) true [] = tt
units_leave (suc n) false [] = tt
units_leave (suc n) true (None ∷ []) = tt
units_leave (suc n) false (None ∷ []) = tt
units_leave (suc n) true (None ∷ None ∷ ms) = tt
units_leave (suc n) false (None ∷ None ∷ ms) = tt
units_leave (suc n) true (None ∷ Some flags ∷ ms) = leaves_more (units_at (suc n) (is_wide flags) ms) (weight ms) (weight (None ∷ Some flags ∷ ms)) (units_leave (suc n) (is_wide flags) ms) (omega arith)
units_leave (suc n) false (None ∷ Some flags ∷ ms) = leaves_more (units_at (suc n) (is_wide flags) ms) (weight ms) (weight (None ∷ Some flags ∷ ms)) (units_leave (suc n) (is_wide flags) ms) (omega arith)
units_leave (suc n) false (Some b ∷ ms) = with_unit_leaves b (units_at n false ms) (weight ms) (weight (Some b ∷ ms)) (units_leave n false ms) (omega arith)
units_leave (suc n) true (Some b ∷ []) = tt
units_leave (suc n) true (Some b ∷ None ∷ ms) = tt
units_leave (suc n) true (Some b ∷ Some c ∷ ms) = with_unit_leaves (b + 256 * c) (units_at n true ms) (weight ms) (weight (Some b ∷ Some c ∷ ms)) (units_leave n true ms) (omega arith)

abbrev pub LeavesTail : Option (List Mark) → ℕ → Type 0
LeavesTail None n = Unit {0}
LeavesTail (Some ms) n = weight ms ≤ n

tail_leaves_more : (r : Option (List Mark)) (m n : ℕ) → LeavesTail r m → m ≤ n → LeavesTail r n
tail_leaves_more None m n h le = tt
tail_leaves_more (Some x) m n h le = omega arith

pub tail_leaves : (k : ℕ) (ms : List Mark) → LeavesTail (tail_at k ms) (weight ms)
unfolding tail_at
tail_leaves zero ms = omega arith
tail_leaves (suc k) [] = tt
tail_leaves (suc k) (None ∷ ms) = tail_leaves_more (tail_at (suc k) ms) (weight ms) (weight (None ∷ ms)) (tail_leaves (suc k) ms) (omega arith)
tail_leaves (suc k) (Some b ∷ ms) = tail_leaves_more (tail_at k ms) (weight ms) (weight (Some b ∷ ms)) (tail_leaves k ms) (omega arith)

-- ---- what marked bytes weigh

pub weight-drop : (k : ℕ) (ms : List Mark) → weight (drop k ms) ≤ weight ms - k
weight-drop zero ms = omega arith
weight-drop (suc k) [] = omega arith
weight-drop (suc k) (None ∷ ms) = let h = weight-drop k ms in omega arith
weight-drop (suc k) (Some b ∷ ms) = let h = weight-drop k ms in omega arith

pub weight-bytes : (bs : List ℕ) (ms : List Mark) → weight (map Some bs ++ ms) ≡ length bs + weight ms
weight-bytes [] ms = omega arith
weight-bytes (b ∷ bs) ms = let h = weight-bytes bs ms in omega arith
