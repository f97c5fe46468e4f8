-- Steps over marked bytes.
use Rattle.std.proofs.Common.{◌≡◌, ℕ, suc, ◌+◌, ◌-◌, ◌*◌, ◌<◌, ◌≤◌, Bool, true, false, List, [], ◌∷◌, ◌++◌, length, Option, Some, None, refl, sym, ap, subst, ◌∙◌, append_assoc, arith, inl, inr, is_some}
use Rattle.std.proofs.lemmas.List.{append-nil, length-append}
use Rattle.xls_stream.specs.StringTable.{Mark, weight, marked, marked_piece, with_unit, units_at}
use Rattle.std.specs.List.{flat_map}
use Rattle.xls_stream.proofs.StringUnits.{weight-bytes, UnitsSoFar, with_prefix, regroup, unit_at_narrow, unit_at_wide, unit_at_mark}
use Rattle.xls_strings.specs.MarkSteps.{IsAtMark, IsPastMark, TakesByte, TakesHigh, TakesWidth}

-- ---- a hand and pieces

pub at_end : (hand : List ℕ) (pieces : List (List ℕ)) (v : List Mark) → marked hand pieces ≡ v → length hand ≡ 0 → IsAtMark v
at_end [] [] v e z = subst IsAtMark e tt
at_end [] (p ∷ ps) v e z = subst IsAtMark e tt
at_end (b ∷ bs) pieces v e z = absurd (omega arith)

pub not_at_end : (hand : List ℕ) (pieces : List (List ℕ)) (v : List Mark) → marked hand pieces ≡ v → 0 < length hand → IsPastMark v
not_at_end [] pieces v e z = absurd (omega arith)
not_at_end (b ∷ bs) pieces v e z = subst IsPastMark e tt

-- ---- units

pub units_more : (total : Option (List ℕ × List Mark)) (old now new : List ℕ) (left u : ℕ) (wide : Bool) (text after : List Mark) → UnitsSoFar total old now left wide text → 0 < left
    → units_at (suc (left - 1)) wide text ≡ with_unit u (units_at (left - 1) wide after) → new ≡ now ++ u ∷ [] → UnitsSoFar total old new (left - 1) wide after
units_more total old now new left u wide text after s some step items =
    let k : left ≡ suc (left - 1) = omega arith in
    let here : units_at left wide text ≡ with_unit u (units_at (left - 1) wide after) = ap (λ (n : ℕ). units_at n wide text) k ∙ step in
    record {
      units = s.units ++ u ∷ [];
      items = items ∙ ap (λ (x : List ℕ). x ++ u ∷ []) s.items ∙ append_assoc old s.units (u ∷ []);
      same = sym (regroup s.units u (units_at (left - 1) wide after)) ∙ ap (with_prefix s.units) (sym here) ∙ s.same;
    }

pub width_more : (total : Option (List ℕ × List Mark)) (old now : List ℕ) (left : ℕ) (wide next : Bool) (text after : List Mark) → UnitsSoFar total old now left wide text → 0 < left → TakesWidth text (Some next) after → UnitsSoFar total old now left next after
width_more total old now left wide next text after s some w =
    let k : left ≡ suc (left - 1) = omega arith in
    let here : units_at left wide text ≡ units_at left next after = rw (w.1, w.2, k) (unit_at_mark (left - 1) w.0 wide after) in
    record { units = s.units; items = s.items; same = ap (with_prefix s.units) (sym here) ∙ s.same }

pub unit_step : (n b h : ℕ) (wide : Bool) (text middle after : List Mark) → TakesByte text (Some b) middle → TakesHigh wide middle (Some h) after → units_at (suc n) wide text ≡ with_unit (b + 256 * h) (units_at n wide after)
unit_step n b h true text middle after t u = rw (t, u) (unit_at_wide n b h after)
unit_step n b h false text middle after t u =
    let e = u.0 in
    let z : h ≡ 0 = cc in
    let sum : b + 256 * h ≡ b = omega arith in
    rw (t, u.1, sum) (unit_at_narrow n b middle)

high_missing : (n b : ℕ) (ms : List Mark) → IsAtMark ms → units_at (suc n) true (Some b ∷ ms) ≡ None
unfolding units_at
high_missing n b [] h = refl
high_missing n b (None ∷ ms) h = refl
high_missing n b (Some c ∷ ms) h = absurd h

pub no_unit : (n b : ℕ) (wide : Bool) (text middle after : List Mark) → TakesByte text (Some b) middle → TakesHigh wide middle None after → units_at (suc n) wide text ≡ None
no_unit n b true text middle after t u = rw t (high_missing n b middle u.1)
no_unit n b false text middle after t u = let e = u.0 in absurd cc

both_ends : (n : ℕ) (wide : Bool) (ms : List Mark) → IsAtMark ms → IsPastMark ms → units_at (suc n) wide ms ≡ None
unfolding units_at
both_ends n true [] a p = refl
both_ends n false [] a p = refl
both_ends n wide (None ∷ ms) a p = absurd p
both_ends n wide (Some b ∷ ms) a p = absurd a

flags_missing : (n : ℕ) (wide : Bool) (ms : List Mark) → IsAtMark ms → units_at (suc n) wide (None ∷ ms) ≡ None
unfolding units_at
flags_missing n true [] a = refl
flags_missing n false [] a = refl
flags_missing n true (None ∷ ms) a = refl
flags_missing n false (None ∷ ms) a = refl
flags_missing n wide (Some b ∷ ms) a = absurd a

pub no_width : (n : ℕ) (wide : Bool) (text after : List Mark) → IsAtMark text → TakesWidth text None after → units_at (suc n) wide text ≡ None
no_width n wide text after a w =
    elim w [ inl p ↦ both_ends n wide text a p | inr m ↦ rw m.1 (flags_missing n wide m.0 m.2) ]

pub units_fail : (total : Option (List ℕ × List Mark)) (old now : List ℕ) (left : ℕ) (wide : Bool) (text : List Mark) → UnitsSoFar total old now left wide text → 0 < left → units_at (suc (left - 1)) wide text ≡ None → total ≡ None
units_fail total old now left wide text s some none =
    let k : left ≡ suc (left - 1) = omega arith in
    sym s.same ∙ ap (with_prefix s.units) (ap (λ (n : ℕ). units_at n wide text) k ∙ none)

pub units_done : (total : Option (List ℕ × List Mark)) (old now : List ℕ) (left : ℕ) (wide : Bool) (text : List Mark) → UnitsSoFar total old now left wide text → left ≡ 0 → (units : List ℕ) × (now ≡ old ++ units) × (total ≡ Some (units, text))
unfolding units_at
units_done total old now left wide text s z =
    (s.units, s.items, sym s.same ∙ ap (λ (n : ℕ). with_prefix s.units (units_at n wide text)) z ∙ ap (λ (us : List ℕ). Some (us, text)) (append-nil s.units))

pub ends_here : (ms : List Mark) → IsAtMark ms → IsPastMark ms → ms ≡ []
ends_here [] a p = refl
ends_here (None ∷ ms) a p = absurd p
ends_here (Some b ∷ ms) a p = absurd a

pub took_byte : (before after : List Mark) (r : Option ℕ) → TakesByte before r after → is_some r ≡ true → (b : ℕ) × (before ≡ Some b ∷ after)
took_byte before after (Some b) t e = (b, t)
took_byte before after None t e = absurd cc

pub took_none : (before after : List Mark) (r : Option ℕ) → TakesByte before r after → is_some r ≡ false → (after ≡ before) × IsAtMark before
took_none before after (Some b) t e = absurd cc
took_none before after None t e = t

-- ---- what marked bytes weigh

pub weight-marked : (hand : List ℕ) (bodies : List (List ℕ)) → weight (marked hand bodies) ≡ length hand + weight (flat_map marked_piece bodies)
weight-marked hand bodies = weight-bytes hand (flat_map marked_piece bodies)
