-- Marked bytes are one table, or have one fault.
use Rattle.std.proofs.Common.{◌≡◌, ◌≢◌, ℕ, zero, suc, ◌+◌, ◌-◌, ◌≤◌, Bool, true, false, cond, List, [], ◌∷◌, length, drop, take, Option, Some, None, Result, Ok, Err, refl, sym, ap, subst, ◌∙◌, arith, lit≤, slice_index, inl, inr}
use Rattle.std.specs.Prelude.{nat_lt, ◌⊎◌}
use Rattle.xls_bytes.specs.Numbers.{le}
use Rattle.xls_stream.specs.StringTable.{Mark, weight, is_wide, prefix_of, units_at, tail_at}
use Rattle.xls_stream.proofs.StringUnits.{weight-drop, units_leave, tail_leaves, Leaves, LeavesTail}
use Rattle.xls_stream.specs.StringTable.{Missing, short_head, Head, has_runs, has_extension, head_len, after_at, with_tail, tail_of, with_units, with_head, str_at, next_at, Strings, Table, TableFault}
use Rattle.xls_stream.specs.StringTable.{OneReading}

-- ---- a string takes something

abbrev pub Shrinks : Result (List ℕ × List Mark) Missing → ℕ → Type 0
Shrinks (Ok x) n = weight x.1 ≤ n
Shrinks (Err e) n = Unit {0}

shrinks_more : (r : Result (List ℕ × List Mark) Missing) (m n : ℕ) → Shrinks r m → m ≤ n → Shrinks r n
shrinks_more (Ok x) m n h le = omega arith
shrinks_more (Err e) m n h le = tt

tail_shrinks : (us : List ℕ) (r : Option (List Mark)) (n : ℕ) → LeavesTail r n → Shrinks (with_tail us r) n
tail_shrinks us None n h = tt
tail_shrinks us (Some ms) n h = h

tail_of_shrinks : (us : List ℕ) (t : Option ℕ) (ms : List Mark) → Shrinks (with_tail us (tail_of t ms)) (weight ms)
tail_of_shrinks us None ms = tt
tail_of_shrinks us (Some k) ms = tail_shrinks us (tail_at k ms) (weight ms) (tail_leaves k ms)

units_shrink : (t : Option ℕ) (r : Option (List ℕ × List Mark)) (m n : ℕ) → Leaves r m → m ≤ n → Shrinks (with_units t r) n
units_shrink t None m n h le = tt
units_shrink t (Some x) m n h le = shrinks_more (with_tail x.0 (tail_of t x.1)) (weight x.1) n (tail_of_shrinks x.0 t x.1) (omega arith)

head_shrinks : (a b : Bool) (e f : Missing) (h : Head) (ms : List Mark) → 3 ≤ h.len → Shrinks (with_head ms (cond a (Err e) (cond b (Err f) (Ok h)))) (weight ms - 3)
head_shrinks true b e f h ms le = tt
head_shrinks false true e f h ms le = tt
head_shrinks false false e f h ms le =
    units_shrink h.following (units_at h.count h.wide (drop h.len ms)) (weight (drop h.len ms)) (weight ms - 3) (units_leave h.count h.wide (drop h.len ms)) (omega (arith, weight-drop h.len ms))

three : (a b : Bool) → 3 ≤ cond a (cond b 5 3 + 4) (cond b 5 3)
three true true = lit≤ tt
three true false = lit≤ tt
three false true = lit≤ tt
three false false = lit≤ tt

str_shrinks : (ms : List Mark) → Shrinks (str_at ms) (weight ms - 3)
str_shrinks ms =
    let prefix = prefix_of ms in
    let flags = slice_index prefix 2 in
    head_shrinks (nat_lt (length prefix) 3) (nat_lt (length prefix) (head_len flags)) (short_head 3 (length prefix)) (short_head (head_len flags) (length prefix))
    (record { len = head_len flags; count = le (take 2 prefix); wide = is_wide flags; following = after_at prefix }) ms (three (has_extension (slice_index (prefix_of ms) 2)) (has_runs (slice_index (prefix_of ms) 2)))

pub next_shrinks : (ms : List Mark) → Shrinks (next_at ms) (weight ms - 3)
next_shrinks [] = str_shrinks []
next_shrinks (None ∷ []) = omega arith
next_shrinks (None ∷ None ∷ ms) = omega arith
next_shrinks (None ∷ Some b ∷ ms) = shrinks_more (str_at (Some b ∷ ms)) (weight (Some b ∷ ms) - 3) (weight (None ∷ Some b ∷ ms) - 3) (str_shrinks (Some b ∷ ms)) (omega arith)
next_shrinks (Some b ∷ ms) = str_shrinks (Some b ∷ ms)

-- ---- one of the two

abbrev Read : List Mark → Type 0
Read ms = ((strings : List (List ℕ)) × Table ms strings) ⊎ ((e : Missing) × TableFault ms e)

read_on : (ms after : List Mark) (s : List ℕ) → next_at ms ≡ Ok (s, after) → Read after → Read ms
read_on ms after s e r = elim r [
  | inl t ↦ inl (s ∷ t.0, (after, e, t.1))
  | inr f ↦ let g = f.1 in inr (f.0, record { strings = s ∷ g.strings; rest = g.rest; before = (after, e, g.before); some = g.some; fault = g.fault })
]

read_step : (ms : List Mark) (r : Result (List ℕ × List Mark) Missing) → next_at ms ≡ r → ms ≢ [] → Shrinks r (weight ms - 3) → ((after : List Mark) → weight after ≤ weight ms - 3 → Read after) → Read ms
read_step ms (Ok x) e n s on = read_on ms x.1 x.0 e (on x.1 s)
read_step ms (Err f) e n s on = inr (f, record { strings = []; rest = ms; before = refl; some = n; fault = e })

read_within : (fuel : ℕ) (ms : List Mark) → weight ms ≤ fuel → Read ms
read_within fuel [] few = inl ([], refl)
read_within zero (None ∷ ms) few = absurd (omega arith)
read_within zero (Some b ∷ ms) few = absurd (omega arith)
read_within (suc fuel) (None ∷ ms) few = read_step (None ∷ ms) (next_at (None ∷ ms)) refl (λ e. cc) (next_shrinks (None ∷ ms)) (λ after le. read_within fuel after (omega arith))
read_within (suc fuel) (Some b ∷ ms) few = read_step (Some b ∷ ms) (next_at (Some b ∷ ms)) refl (λ e. cc) (next_shrinks (Some b ∷ ms)) (λ after le. read_within fuel after (omega arith))

-- ---- and one only

abbrev IsStop : List Mark → Type 0
IsStop ms = (s : List ℕ) (after : List Mark) → next_at ms ≡ Ok (s, after) → ⊥

same_pair : (x y : List ℕ × List Mark) → ◌≡◌ {A = Result (List ℕ × List Mark) Missing} (Ok x) (Ok y) → x ≡ y
same_pair x y e = cc

same_strings : (ms : List Mark) (ss ts : List (List ℕ)) (q r : List Mark) → Strings ms ss q → Strings ms ts r → IsStop q → IsStop r → (ss ≡ ts) × (q ≡ r)
same_strings ms [] [] q r a b eq er = (refl, sym a ∙ b)
same_strings ms [] (t ∷ ts) q r a b eq er = absurd (eq t b.0 (ap next_at (sym a) ∙ b.1))
same_strings ms (s ∷ ss) [] q r a b eq er = absurd (er s a.0 (ap next_at (sym b) ∙ a.1))
same_strings ms (s ∷ ss) (t ∷ ts) q r a b eq er =
    let one = same_pair (s, a.0) (t, b.0) (sym a.1 ∙ b.1) in
    let item : s ≡ t = ap (λ (x : List ℕ × List Mark). x.0) one in
    let left : b.0 ≡ a.0 = ap (λ (x : List ℕ × List Mark). x.1) (sym one) in
    let others = same_strings a.0 ss ts q r a.2 (subst (λ (x : List Mark). Strings x ts r) left b.2) eq er in
    (ap (λ (x : List ℕ). x ∷ ss) item ∙ ap (λ (xs : List (List ℕ)). t ∷ xs) others.0, others.1)

nothing_stops : IsStop []
nothing_stops s after e = cc

fault_stops : (ms : List Mark) (f : Missing) → next_at ms ≡ Err f → IsStop ms
fault_stops ms f e s after o = cc

pub one_reading : (ms : List Mark) → OneReading ms
one_reading ms = record {
  some = read_within (weight ms) ms (omega arith);
  table = λ ss ts a b. (same_strings ms ss ts [] [] a b nothing_stops nothing_stops).0;
  fault = λ e f a b.
      let r : a.rest ≡ b.rest = (same_strings ms a.strings b.strings a.rest b.rest a.before b.before (fault_stops a.rest e a.fault) (fault_stops b.rest f b.fault)).1 in
      let x = a.fault in
      let y = b.fault in
      let z : next_at b.rest ≡ Err e = ap next_at (sym r) ∙ x in
      cc;
  apart = λ ss e a b. b.some (sym (same_strings ms ss b.strings [] b.rest a b.before nothing_stops (fault_stops b.rest e b.fault)).1);
}
