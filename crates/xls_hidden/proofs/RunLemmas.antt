-- Runs, one at a time.
use Rattle.std.proofs.Common.{◌≡◌, ◌≢◌, ℕ, zero, suc, ◌+◌, ◌-◌, ◌≤◌, ◌<◌, List, [], ◌∷◌, length, refl, sym, ap, ◌∙◌, subst, arith, Bool, true, false, cond, ◌&&◌, Option, Some, None, ◌⊎◌, inl, inr, eq-eqb}
use Rattle.std.specs.Prelude.{◌==◌}
use Rattle.std.proofs.lemmas.Bool.{cases_lt}
use Rattle.std.proofs.lemmas.Bool.Decides.{eqb_tells}
use Rattle.xls_hidden.specs.declared.lines.Run.{Run}
use Rattle.xls_hidden.specs.declared.lines.Why.{Why}
use Rattle.xls_hidden.specs.declared.lines.Why.TheVariants.{Hidden, Filtered, Flat}
use Rattle.xls_hidden.specs.Runs.{is_same, join, with_line, runs_from}

pub one_run_fewer : (before after : List Run) (r : Run) → before ≡ r ∷ after → length after < length before
one_run_fewer before after r e = rw e (omega arith)

-- ---- the reasons

pub same_self : (why : Why) → is_same why why ≡ true
same_self Hidden = refl
same_self Filtered = refl
same_self Flat = refl

pub same_is : (a b : Why) → is_same a b ≡ true → a ≡ b
same_is Hidden Hidden e = refl
same_is Filtered Filtered e = refl
same_is Flat Flat e = refl
same_is Hidden Filtered e = absurd cc
same_is Hidden Flat e = absurd cc
same_is Filtered Hidden e = absurd cc
same_is Filtered Flat e = absurd cc
same_is Flat Hidden e = absurd cc
same_is Flat Filtered e = absurd cc

-- ---- where runs begin

-- the first run begins at this line or behind it, and at this line for its own reason
pub BeginsRight : (ℕ → Option Why) → ℕ → List Run → Type 0
BeginsRight why line [] = Unit {0}
BeginsRight why line (r ∷ rs) = (line ≤ r.first) × (r.first ≡ line → why line ≡ Some r.why)

join_begins : (why : ℕ → Option Why) (line : ℕ) (reason : Why) (rs : List Run) → why line ≡ Some reason → BeginsRight why line (join line reason rs)
unfolding BeginsRight
join_begins why line reason [] e = (omega arith, λ _. e)
join_begins why line reason (r ∷ rs) e = by_test (is_same reason r.why && r.first == line + 1)
  where
    by_test : (b : Bool) → BeginsRight why line (cond b (record { first = line; last = r.last; why = reason } ∷ rs) (record { first = line; last = line; why = reason } ∷ r ∷ rs))
    by_test true = (omega arith, λ _. e)
    by_test false = (omega arith, λ _. e)

later_begins : (why : ℕ → Option Why) (line : ℕ) (rs : List Run) → BeginsRight why (line + 1) rs → BeginsRight why line rs
unfolding BeginsRight
later_begins why line [] h = tt
later_begins why line (r ∷ rs) h = (omega (arith, h.0), λ e. absurd (omega (arith, h.0, e)))

with_begins : (why : ℕ → Option Why) (line : ℕ) (reason : Option Why) (rs : List Run) → why line ≡ reason → BeginsRight why (line + 1) rs → BeginsRight why line (with_line line reason rs)
with_begins why line None rs e h = later_begins why line rs h
with_begins why line (Some reason) rs e h = join_begins why line reason rs e

pub runs_begin : (why : ℕ → Option Why) (line n : ℕ) → BeginsRight why line (runs_from why line n)
unfolding runs_from BeginsRight
runs_begin why line zero = tt
runs_begin why line (suc n) = with_begins why line (why line) (runs_from why (line + 1) n) refl (runs_begin why (line + 1) n)

-- ---- one line

runs_zero : (why : ℕ → Option Why) (line : ℕ) → runs_from why line 0 ≡ []
unfolding runs_from
runs_zero why line = refl

runs_more : (why : ℕ → Option Why) (line n : ℕ) → runs_from why line (suc n) ≡ with_line line (why line) (runs_from why (line + 1) n)
unfolding runs_from
runs_more why line n = refl

pub runs_line : (why : ℕ → Option Why) (line count : ℕ) → line < count
    → runs_from why line (count - line) ≡ with_line line (why line) (runs_from why (line + 1) (count - (line + 1)))
runs_line why line count h = by_rest (count - line) (omega (arith, h))
  where
    by_rest : (n : ℕ) → n ≡ suc (count - (line + 1)) → runs_from why line n ≡ with_line line (why line) (runs_from why (line + 1) (count - (line + 1)))
    by_rest n e = rw e (runs_more why line (count - (line + 1)))

pub runs_none : (why : ℕ → Option Why) (line count : ℕ) → count ≤ line → runs_from why line (count - line) ≡ []
runs_none why line count h = let e : count - line ≡ 0 = omega (arith, h) in rw e (runs_zero why line)

-- a line that can be seen is passed over
pub runs_seen : (why : ℕ → Option Why) (line count : ℕ) → line < count → why line ≡ None
    → runs_from why line (count - line) ≡ runs_from why (line + 1) (count - (line + 1))
runs_seen why line count h e = runs_line why line count h ∙ ap (λ (o : Option Why). with_line line o (runs_from why (line + 1) (count - (line + 1)))) e

-- ---- one run

join_apart : (why : ℕ → Option Why) (line : ℕ) (reason : Why) (rs : List Run) → BeginsRight why (line + 1) rs → why (line + 1) ≢ Some reason
    → join line reason rs ≡ record { first = line; last = line; why = reason } ∷ rs
unfolding BeginsRight
join_apart why line reason [] h other = refl
join_apart why line reason (r ∷ rs) h other = by_test (is_same reason r.why) (r.first == line + 1) refl (eqb_tells r.first (line + 1))
  where
    apart : (b : Bool) → is_same reason r.why ≡ b → r.first ≡ line + 1 → b ≡ false
    apart true e f = absurd (other (h.1 f ∙ ap Some (sym (same_is reason r.why e))))
    apart false e f = refl

    by_test : (b c : Bool) → is_same reason r.why ≡ b → ((c ≡ true) × (r.first ≡ line + 1)) ⊎ ((c ≡ false) × (r.first ≢ line + 1))
        → cond (b && c) (record { first = line; last = r.last; why = reason } ∷ rs) (record { first = line; last = line; why = reason } ∷ r ∷ rs) ≡ record { first = line; last = line; why = reason } ∷ r ∷ rs
    by_test false c e t = refl
    by_test true false e t = refl
    by_test true true e (inl t) = absurd (let f = apart true e t.1 in cc)
    by_test true true e (inr t) = absurd (let f = t.0 in cc)

join_on : (line : ℕ) (reason : Why) (last : ℕ) (rs : List Run)
    → join line reason (record { first = line + 1; last = last; why = reason } ∷ rs) ≡ record { first = line; last = last; why = reason } ∷ rs
join_on line reason last rs = rw (same_self reason, eq-eqb (line + 1) (line + 1) refl) refl

join_last : (why : ℕ → Option Why) (line count : ℕ) (reason : Why) → (line + 1 < count → why (line + 1) ≢ Some reason)
    → join line reason (runs_from why (line + 1) (count - (line + 1))) ≡ record { first = line; last = line; why = reason } ∷ runs_from why (line + 1) (count - (line + 1))
join_last why line count reason other = elim (cases_lt (line + 1) count) [
  | inl h ↦ join_apart why line reason (runs_from why (line + 1) (count - (line + 1))) (runs_begin why (line + 1) (count - (line + 1))) (other h)
  | inr h ↦ rw (runs_none why (line + 1) count h) refl
]

-- lines of one reason up to an end that isn't one of them are a run
pub run_is : (why : ℕ → Option Why) (reason : Why) (n first end count : ℕ) → end ≡ first + suc n → end ≤ count
    → ((k : ℕ) → first ≤ k → k < end → why k ≡ Some reason) → (end < count → why end ≢ Some reason)
    → runs_from why first (count - first) ≡ record { first = first; last = end - 1; why = reason } ∷ runs_from why end (count - end)
run_is why reason zero first end count e within all other =
    let one : end ≡ first + 1 = omega (arith, e) in
    let last : end - 1 ≡ first = omega (arith, e) in
    runs_line why first count (omega (arith, e, within))
    ∙ ap (λ (o : Option Why). with_line first o (runs_from why (first + 1) (count - (first + 1)))) (all first (omega arith) (omega (arith, e)))
    ∙ join_last why first count reason (subst (λ (x : ℕ). x < count → why x ≢ Some reason) one other)
    ∙ rw (last, one) refl
run_is why reason (suc n) first end count e within all other =
    let others = run_is why reason n (first + 1) end count (omega (arith, e)) within (λ k low high. all k (omega (arith, low)) high) other in
    runs_line why first count (omega (arith, e, within))
    ∙ ap (λ (o : Option Why). with_line first o (runs_from why (first + 1) (count - (first + 1)))) (all first (omega arith) (omega (arith, e)))
    ∙ ap (λ (rs : List Run). join first reason rs) others
    ∙ join_on first reason (end - 1) (runs_from why end (count - end))
