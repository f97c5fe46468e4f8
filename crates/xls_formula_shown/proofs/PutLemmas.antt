-- Steps over operands.
use Rattle.std.proofs.Common.{Bool, Result, zero, suc, ◌≡◌, ◌≢◌, ◌≤◌, ◌<◌, ◌+◌, ◌-◌, ℕ, List, [], ◌∷◌, ◌++◌, length, map, Ok, Err, refl, sym, ◌∙◌, ap, arith, append_assoc, codes, false, true}
use Rattle.xls_formula.specs.Tree.{separated}
use Rattle.xls_shown_ptg.specs.Reading.{◌>>=◌}
use Rattle.xls_shown_ptg.specs.declared.fault.Fault.{Fault}
use Rattle.xls_formula_shown.specs.ShownEffects.{calls, calls_by_name}
use Rattle.xls_formula_shown.specs.ShownFold.{call_text, gather, named_call, too_few, write}
use Rattle.xls_formula_shown.specs.State.{Operand, Waiting, alike}
use Rattle.xls_formula_shown.specs.Steps.{changed, gathered, joined, joins}

pub before_twice : (b c : List ℕ) (ts : List Operand) → changed (λ t. b ++ t) (changed (λ t. c ++ t) ts) ≡ changed (λ t. (b ++ c) ++ t) ts
before_twice b c [] = refl
before_twice b c (t ∷ ts) = ap (λ (x : List ℕ). alike x ∷ ts) (sym (append_assoc b c t.shown))

pub after_twice : (b c : List ℕ) (ts : List Operand) → changed (λ t. t ++ c) (changed (λ t. t ++ b) ts) ≡ changed (λ t. t ++ (b ++ c)) ts
after_twice b c [] = refl
after_twice b c (t ∷ ts) = ap (λ (x : List ℕ). alike x ∷ ts) (append_assoc t.shown b c)

pub closed_thrice : (b c d : List ℕ) (ts : List Operand) → changed (λ t. t ++ d) (changed (λ t. t ++ c) (changed (λ t. b ++ t) ts)) ≡ changed (λ t. b ++ (t ++ (c ++ d))) ts
closed_thrice b c d [] = refl
closed_thrice b c d (t ∷ ts) =
    ap (λ (x : List ℕ). alike x ∷ ts)
    (append_assoc (b ++ t.shown) c d ∙ append_assoc b t.shown (c ++ d))

pub length-changed : (f : List ℕ → List ℕ) (ts : List Operand) → length (changed f ts) ≡ length ts
length-changed f [] = refl
length-changed f (t ∷ ts) = refl

-- ---- commas

pub length-joined : (is_called : Bool) (mark : List ℕ) (ts : List Operand) → 1 < length ts → length (joined is_called mark ts) + 1 ≡ length ts
length-joined is_called mark [] lt = absurd (omega arith)
length-joined is_called mark (t ∷ []) lt = absurd (omega arith)
length-joined is_called mark (t ∷ u ∷ ts) lt = omega arith

pub joins_step : (count i : ℕ) (ts : List Operand) → i < count → joins (count - (i + 1)) (joined false (codes ",") ts) ≡ joins (count - i) ts
joins_step count i ts lt =
    let e : suc (count - (i + 1)) ≡ count - i = omega arith in
    ap (λ n. joins n ts) e

pub joins_done : (n : ℕ) (ts : List Operand) → n ≡ 0 → joins n ts ≡ ts
joins_done n ts e = ap (λ k. joins k ts) e

pub gathered_some : (count : ℕ) (ts : List Operand) → count ≢ 0 → gathered count ts ≡ changed (λ t. t) (joins (count - 1) ts)
gathered_some zero ts ne = absurd (ne refl)
gathered_some (suc n) ts ne =
    let e : n ≡ suc n - 1 = omega arith in
    ap (λ k. changed (λ t. t) (joins k ts)) e

-- ---- the operands of a call

abbrev shown_of : Operand → List ℕ
shown_of t = t.shown

pub gather_few : (n : ℕ) (acc ts : List Operand) → length ts < n → gather n acc ts ≡ Err too_few
gather_few zero acc ts lt = absurd (omega arith)
gather_few (suc n) acc [] lt = refl
gather_few (suc n) acc (t ∷ ts) lt = gather_few n (t ∷ acc) ts (omega (arith, lt))

-- the operands of a call, and that they are made one
pub record IsGathered (gather_of : Result (List Operand × List Operand) Fault) (one : List Operand) (n : ℕ) (ts : List Operand) : Type 0 where
  pub operands : List Operand
  pub rest : List Operand
  pub gather : gather_of ≡ Ok (operands, rest)
  pub as_one : one ≡ alike (separated (map shown_of operands)) ∷ rest
  pub count : length rest + n ≡ length ts

gather_on : (n : ℕ) (first : Operand) (others : List Operand) (x : Operand) (ts : List Operand) → x.shown ≡ separated (map shown_of (first ∷ others)) → n ≤ length ts
    → IsGathered (gather n (first ∷ others) ts) (changed (λ t. t) (joins n (x ∷ ts))) n ts
gather_on zero first others x ts e le =
    record {
      operands = first ∷ others;
      rest = ts;
      gather = refl;
      as_one = ap (λ (y : List ℕ). alike y ∷ ts) e;
      count = omega arith;
    }
gather_on (suc n) first others x [] e le = absurd (omega (arith, le))
gather_on (suc n) first others x (t ∷ ts) e le =
    let more = gather_on n t (first ∷ others) (alike (t.shown ++ (codes "," ++ x.shown))) ts (ap (λ (y : List ℕ). t.shown ++ (codes "," ++ y)) e) (omega (arith, le)) in
    record {
      operands = more.operands;
      rest = more.rest;
      gather = more.gather;
      as_one = more.as_one;
      count = omega (arith, more.count);
    }

pub gather_as : (n : ℕ) (ts : List Operand) → n ≤ length ts → IsGathered (gather n [] ts) (gathered n ts) n ts
gather_as zero ts le = record { operands = []; rest = ts; gather = refl; as_one = refl; count = omega arith }
gather_as (suc n) [] le = absurd (omega (arith, le))
gather_as (suc n) (t ∷ ts) le =
    let more = gather_on n t [] t ts refl (omega (arith, le)) in
    record {
      operands = more.operands;
      rest = more.rest;
      gather = more.gather;
      as_one = more.as_one;
      count = omega (arith, more.count);
    }

-- one operand more
gather_more : (n : ℕ) (acc ts xs : List Operand) (name : Operand) (left : List Operand) → gather n acc ts ≡ Ok (xs, name ∷ left) → gather (suc n) acc ts ≡ Ok (name ∷ xs, left)
gather_more zero acc [] xs name left e = grind (arith, e)
gather_more zero acc (t ∷ ts) xs name left e = grind (arith, e)
gather_more (suc n) acc [] xs name left e = grind (arith, e)
gather_more (suc n) acc (t ∷ ts) xs name left e = gather_more n (t ∷ acc) ts xs name left e

-- ---- calls

abbrev pub closed : Waiting → List ℕ → List ℕ
closed w t = w.before ++ (t ++ (w.closing ++ codes ")"))

abbrev pub called : Waiting → List ℕ → List Operand → List Operand
called w name ts = changed (closed w) (changed (λ t. name ++ t) (changed (λ t. codes "(" ++ t) ts))

pub call_is : (count : ℕ) (name : List ℕ) (w : Waiting) (ts : List Operand) → count ≤ length ts → write (calls count name) w ts ≡ Ok (called w name (gathered count ts))
call_is count name w ts le =
    let g = gather_as count ts le in
    let operands : List ℕ = separated (map shown_of g.operands) in
    ap (λ (r : Result (List Operand × List Operand) Fault). ◌>>=◌ r (λ x. Ok (alike (call_text w name x.0) ∷ x.1))) g.gather
    ∙ (ap (λ (x : List ℕ). Ok (alike (w.before ++ x) ∷ g.rest)) (sym (append_assoc name (codes "(" ++ operands) (w.closing ++ codes ")")))
    ∙ ap (λ (x : List Operand). Ok (called w name x)) (sym g.as_one))

first_of : (rest : List Operand) → 0 < length rest → (name : Operand) × (left : List Operand) × (rest ≡ name ∷ left)
first_of [] lt = absurd (omega arith)
first_of (name ∷ left) lt = (name, left, refl)

pub named_is : (count : ℕ) (w : Waiting) (ts : List Operand) → count ≢ 0 → count ≤ length ts
    → write (calls_by_name count) w ts ≡ Ok (changed (closed w) (joined true (codes "(") (gathered (count - 1) ts)))
named_is zero w ts ne le = absurd (ne refl)
named_is (suc n) w ts ne le =
    let m : suc n - 1 ≡ n = omega arith in
    let g = gather_as n ts (omega (arith, le)) in
    let operands : List ℕ = separated (map shown_of g.operands) in
    let f = first_of g.rest (omega (arith, le, g.count)) in
    let named : Operand = f.0 in
    let whole : gather (suc n) [] ts ≡ Ok (f.0 ∷ g.operands, f.1) = gather_more n [] ts g.operands f.0 f.1 (g.gather ∙ ap (λ (x : List Operand). Ok (g.operands, x)) f.2) in
    ap (λ (r : Result (List Operand × List Operand) Fault). ◌>>=◌ r (λ x. ◌>>=◌ (named_call w x.0) (λ (text : List ℕ). Ok (alike text ∷ x.1)))) whole
    ∙ (ap (λ (x : List ℕ). Ok (alike (w.before ++ x) ∷ f.1)) (sym (append_assoc named.called (codes "(" ++ operands) (w.closing ++ codes ")")))
    ∙ (ap (λ (x : List Operand). Ok (changed (closed w) (joined true (codes "(") (alike operands ∷ x)))) (sym f.2)
    ∙ (ap (λ (x : List Operand). Ok (changed (closed w) (joined true (codes "(") x))) (sym g.as_one)
    ∙ ap (λ k. Ok (changed (closed w) (joined true (codes "(") (gathered k ts)))) (sym m))))

-- ---- what is there

pub length-gathered : (count : ℕ) (ts : List Operand) → count ≤ length ts → length (gathered count ts) + count ≡ length ts + 1
length-gathered count ts le =
    let g = gather_as count ts le in
    let e : length (gathered count ts) ≡ suc (length g.rest) = ap length g.as_one in
    omega (arith, e, g.count)

pub call_few : (count : ℕ) (name : List ℕ) (w : Waiting) (ts : List Operand) → length ts < count → write (calls count name) w ts ≡ Err too_few
call_few count name w ts lt =
    ap (λ (r : Result (List Operand × List Operand) Fault). ◌>>=◌ r (λ x. Ok (alike (call_text w name x.0) ∷ x.1))) (gather_few count [] ts lt)

pub named_few : (count : ℕ) (w : Waiting) (ts : List Operand) → length ts < count → write (calls_by_name count) w ts ≡ Err too_few
named_few count w ts lt =
    ap (λ (r : Result (List Operand × List Operand) Fault). ◌>>=◌ r (λ x. ◌>>=◌ (named_call w x.0) (λ (text : List ℕ). Ok (alike text ∷ x.1)))) (gather_few count [] ts lt)

pub some_of : (count : ℕ) (new ts : List Operand) → new ≡ gathered count ts → count ≤ length ts → 0 < length new
some_of count new ts e le =
    let n : length (gathered count ts) + count ≡ length ts + 1 = length-gathered count ts le in
    let m : length new ≡ length (gathered count ts) = ap length e in
    omega (arith, n, m, le)

pub two_of : (count : ℕ) (new ts : List Operand) → new ≡ gathered (count - 1) ts → count ≢ 0 → count ≤ length ts → 1 < length new
two_of zero new ts e ne le = absurd (ne refl)
two_of (suc n) new ts e ne le =
    let k : suc n - 1 ≡ n = omega arith in
    let l : length (gathered n ts) + n ≡ length ts + 1 = length-gathered n ts (omega (arith, le)) in
    let m : length new ≡ length (gathered n ts) = ap length e ∙ ap (λ (i : ℕ). length (gathered i ts)) k in
    omega (arith, l, m, le)

pub some_changed : (f : List ℕ → List ℕ) (new ts : List Operand) → new ≡ changed f ts → 0 < length ts → 0 < length new
some_changed f new ts e lt =
    let m : length new ≡ length ts = ap length e ∙ length-changed f ts in
    omega (arith, m, lt)

pub some_joined : (is_called : Bool) (mark : List ℕ) (new ts : List Operand) → new ≡ joined is_called mark ts → 1 < length ts → 0 < length new
some_joined is_called mark new ts e lt =
    let n : length (joined is_called mark ts) + 1 ≡ length ts = length-joined is_called mark ts lt in
    let m : length new ≡ length (joined is_called mark ts) = ap length e in
    omega (arith, n, m, lt)
