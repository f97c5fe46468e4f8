-- Runs are as long as they can be.
use Rattle.std.proofs.Common.{◌≡◌, ℕ, zero, suc, ◌+◌, ◌<◌, ◌≤◌, List, [], ◌∷◌, refl, sym, ap, ◌∙◌, subst, arith, Bool, true, false, cond, ◌&&◌, Option, Some, None, inl, inr, ◌⊎◌, eq-eqb}
use Rattle.std.specs.Prelude.{nat_le, ◌==◌}
use Rattle.std.proofs.lemmas.Bool.{cases_lt, eqb-true, le-leb, lt-leb}
use Rattle.xls_hidden.specs.declared.lines.Run.{Run}
use Rattle.xls_hidden.specs.declared.lines.Why.{Why}
use Rattle.xls_hidden.specs.Runs.{is_same, join, with_line, runs_from}
use Rattle.xls_hidden.specs.Laws.{reason_in, Follow, Ascend, Tell, RunsAreLongest}
use Rattle.xls_hidden.proofs.RunLemmas.{same_self, same_is}

module _ (r : Run) (rs : List Run) (k : ℕ) where
  reason_here : r.first ≤ k → k ≤ r.last → reason_in (r ∷ rs) k ≡ Some r.why
  reason_here low high = rw (le-leb r.first k low, le-leb k r.last high) refl

  reason_low : k < r.first → reason_in (r ∷ rs) k ≡ reason_in rs k
  reason_low low = rw (lt-leb r.first k low) refl

  reason_high : r.last < k → reason_in (r ∷ rs) k ≡ reason_in rs k
  reason_high high = by_first (nat_le r.first k)
    where
      by_first : (b : Bool) → cond (b && nat_le k r.last) (Some r.why) (reason_in rs k) ≡ reason_in rs k
      by_first true = rw (lt-leb k r.last high) refl
      by_first false = refl

at_or_behind : (k line : ℕ) → line ≤ k → (k ≡ line) ⊎ (line < k)
at_or_behind k line h = elim (cases_lt line k) [
  | inl low ↦ inr low
  | inr high ↦ inl (omega (arith, h, high))
]

-- ---- a line that can be seen

ascend_earlier : (line : ℕ) (rs : List Run) → Ascend (line + 1) rs → Ascend line rs
ascend_earlier line [] h = tt
ascend_earlier line (r ∷ rs) h = (omega (arith, h.0), h.1, h.2, h.3)

tell_seen : (why : ℕ → Option Why) (line n : ℕ) (rs : List Run) → why line ≡ None → Tell why (line + 1) n rs → Tell why line (suc n) rs
tell_seen why line n rs e t = record {
  ascend = ascend_earlier line rs t.ascend;
  inside = λ k low high. elim (at_or_behind k line low) [
    | inl same ↦ subst (λ (x : ℕ). reason_in rs x ≡ why x) (sym same) (t.before line (omega arith) ∙ sym e)
    | inr behind ↦ t.inside k (omega (arith, behind)) (omega (arith, high))
  ];
  before = λ k low. t.before k (omega (arith, low));
  behind = λ k high. t.behind k (omega (arith, high));
}

-- ---- a run of one line

tell_one : (why : ℕ → Option Why) (line n : ℕ) (reason : Why) (rs : List Run) → why line ≡ Some reason → Tell why (line + 1) n rs
    → Follow (record { first = line; last = line; why = reason }) rs → Tell why line (suc n) (record { first = line; last = line; why = reason } ∷ rs)
tell_one why line n reason rs e t f =
    let one : Run = record { first = line; last = line; why = reason } in
    record {
      ascend = (omega arith, omega arith, f, t.ascend);
      inside = λ k low high. elim (at_or_behind k line low) [
        | inl same ↦ subst (λ (x : ℕ). reason_in (one ∷ rs) x ≡ why x) (sym same) (reason_here one rs line (omega arith) (omega arith) ∙ sym e)
        | inr behind ↦ reason_high one rs k behind ∙ t.inside k (omega (arith, behind)) (omega (arith, high))
      ];
      before = λ k low. reason_low one rs k low ∙ t.before k (omega (arith, low));
      behind = λ k high. reason_high one rs k (omega (arith, high)) ∙ t.behind k (omega (arith, high));
    }

-- ---- a line that joins a run

follow_same : (r s : Run) (rs : List Run) → s.last ≡ r.last → s.why ≡ r.why → Follow r rs → Follow s rs
follow_same r s [] last why f = tt
follow_same r s (x ∷ rs) last why f = λ e other. f (e ∙ ap (λ (n : ℕ). n + 1) last) (other ∙ why)

tell_joined : (why : ℕ → Option Why) (line n : ℕ) (reason : Why) (r : Run) (rs : List Run) → why line ≡ Some reason → Tell why (line + 1) n (r ∷ rs)
    → reason ≡ r.why → r.first ≡ line + 1 → Tell why line (suc n) (record { first = line; last = r.last; why = reason } ∷ rs)
tell_joined why line n reason r rs e t same first =
    let new : Run = record { first = line; last = r.last; why = reason } in
    let up : r.first ≤ r.last = t.ascend.1 in
    record {
      ascend = (omega arith, omega (arith, first, up), follow_same r new rs refl same t.ascend.2, t.ascend.3);
      inside = λ k low high. elim (at_or_behind k line low) [
        | inl here ↦ subst (λ (x : ℕ). reason_in (new ∷ rs) x ≡ why x) (sym here) (reason_here new rs line (omega arith) (omega (arith, first, up)) ∙ sym e)
        | inr behind ↦ elim (cases_lt r.last k) [
          | inl past ↦ reason_high new rs k past ∙ sym (reason_high r rs k past) ∙ t.inside k (omega (arith, behind)) (omega (arith, high))
          | inr within ↦
              reason_here new rs k low within ∙ ap (λ (w : Why). Some w) same ∙ sym (reason_here r rs k (omega (arith, first, behind)) within)
              ∙ t.inside k (omega (arith, behind)) (omega (arith, high))
        ]
      ];
      before = λ k low. reason_low new rs k low ∙ sym (reason_low r rs k (omega (arith, first, low))) ∙ t.before k (omega (arith, low));
      behind = λ k high. elim (cases_lt r.last k) [
        | inl past ↦ reason_high new rs k past ∙ sym (reason_high r rs k past) ∙ t.behind k (omega (arith, high))
        | inr within ↦ absurd (let some = sym (reason_here r rs k (omega (arith, first, high)) within) ∙ t.behind k (omega (arith, high)) in cc)
      ];
    }

-- ---- all lines

both : (a b : Bool) → (a && b) ≡ true → (a ≡ true) × (b ≡ true)
both true true e = (refl, refl)
both true false e = absurd cc
both false b e = absurd cc

tell_join : (why : ℕ → Option Why) (line n : ℕ) (reason : Why) (rs : List Run) → why line ≡ Some reason → Tell why (line + 1) n rs → Tell why line (suc n) (join line reason rs)
tell_join why line n reason [] e t = tell_one why line n reason [] e t tt
tell_join why line n reason (r ∷ rs) e t = by_test (is_same reason r.why && r.first == line + 1) refl
  where
    by_test : (b : Bool) → (is_same reason r.why && r.first == line + 1) ≡ b
        → Tell why line (suc n) (cond b (record { first = line; last = r.last; why = reason } ∷ rs) (record { first = line; last = line; why = reason } ∷ r ∷ rs))
    by_test true test =
        let p = both (is_same reason r.why) (r.first == line + 1) test in
        tell_joined why line n reason r rs e t (same_is reason r.why p.0) (eqb-true r.first (line + 1) p.1)
    by_test false test = tell_one why line n reason (r ∷ rs) e t (λ first same. absurd (
        let one : is_same reason r.why ≡ true = subst (λ (w : Why). is_same reason w ≡ true) (sym same) (same_self reason) in
        let two : (r.first == line + 1) ≡ true = eq-eqb r.first (line + 1) first in
        cc
        ))

tell_line : (why : ℕ → Option Why) (line n : ℕ) (reason : Option Why) (rs : List Run) → why line ≡ reason → Tell why (line + 1) n rs → Tell why line (suc n) (with_line line reason rs)
tell_line why line n None rs e t = tell_seen why line n rs e t
tell_line why line n (Some reason) rs e t = tell_join why line n reason rs e t

pub runs_are_longest : RunsAreLongest
unfolding runs_from
runs_are_longest why line zero = record { ascend = tt; inside = λ k low high. absurd (omega (arith, low, high)); before = λ k low. refl; behind = λ k high. refl }
runs_are_longest why line (suc n) = tell_line why line n (why line) (runs_from why (line + 1) n) refl (runs_are_longest why (line + 1) n)
