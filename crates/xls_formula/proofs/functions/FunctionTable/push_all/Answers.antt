use Rattle.std.proofs.Common.{suc, zero, ◌≡◌, ℕ, ◌+◌, ◌<◌, List, [], ◌∷◌, ◌++◌, length, take, get_or, refl, ◌∙◌, ap, arith, append_assoc, Bor}
use Rattle.std.specs.Str.{chars}
use Rattle.std.proofs.lemmas.List.{take_all}
use Rattle.xls_formula.specs.Functions.{Function, functions_paired}
use Rattle.xls_formula.proofs.functions.FunctionTable.push_all.Goals as goal

length-paired : (names : List (Bor (List ℕ))) (counts : List ℕ) → length names ≡ length counts → length (functions_paired names counts) ≡ length names
length-paired [] counts e = refl
length-paired (name ∷ names) [] e = absurd (omega (arith, e))
length-paired (name ∷ names) (count ∷ counts) e = ap (λ n. suc n) (length-paired names counts (omega (arith, e)))

one_more : (names : List (Bor (List ℕ))) (counts : List ℕ) (i : ℕ) (name : Bor (List ℕ)) (count : ℕ) → i < length (functions_paired names counts) →
    take i (functions_paired names counts) ++ (chars (get_or names i name).now, get_or counts i count) ∷ [] ≡ take (suc i) (functions_paired names counts)
one_more [] counts i name count lt = absurd (omega arith)
one_more (n ∷ names) [] i name count lt = absurd (omega arith)
one_more (n ∷ names) (k ∷ counts) zero name count lt = refl
one_more (n ∷ names) (k ∷ counts) (suc i) name count lt = ap (λ (x : List Function). (chars n.now, k) ∷ x) (one_more names counts i name count (omega (arith, lt)))

pushed_more : (names : List (Bor (List ℕ))) (counts : List ℕ) (i : ℕ) (name : Bor (List ℕ)) (count : ℕ) (start table new : List Function) → i < length names → length names ≡ length counts → table ≡ start ++ take i (functions_paired names counts) →
    new ≡ table ++ (chars (get_or names i name).now, get_or counts i count) ∷ [] → new ≡ start ++ take (i + 1) (functions_paired names counts)
pushed_more names counts i name count start table new lt same t e =
    let n : suc i ≡ i + 1 = omega arith in
    let m : length (functions_paired names counts) ≡ length names = length-paired names counts same in
    e
    ∙ (ap (λ (x : List Function). x ++ (chars (get_or names i name).now, get_or counts i count) ∷ []) t
    ∙ (append_assoc start (take i (functions_paired names counts)) ((chars (get_or names i name).now, get_or counts i count) ∷ [])
    ∙ ap (λ (x : List Function). start ++ x) (one_more names counts i name count (omega arith) ∙ ap (λ k. take k (functions_paired names counts)) n)))

pub names-preserved : goal.names-preserved
names-preserved c = pushed_more c.args.names.now c.args.counts.now c.names.i (record { ref_ptr = (0, 0); now = [] }) 0 c.args.self.now c.names.self c.push.new.self (omega arith) c.requires c.names.invariant c.in_ok-push.ensures.ok

pub returns : goal.returns
returns c =
    let n : length (functions_paired c.args.names.now c.args.counts.now) ≡ length c.args.names.now = length-paired c.args.names.now c.args.counts.now c.requires in
    c.names.invariant ∙ ap (λ (x : List Function). c.args.self.now ++ x) (take_all c.names.i (functions_paired c.args.names.now c.args.counts.now) (omega arith))
