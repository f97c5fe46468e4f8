use Rattle.std.proofs.Common.{◌≡◌, ◌-◌, ◌+◌, suc, sym, ap, ◌∙◌, arith, inr}
use Rattle.std.specs.Str.{chars}
use Rattle.std.specs.String.{string_bytes}
use Rattle.std.proofs.lemmas.Result.{err_from_is_err_and}
use Rattle.xls_bytes.proofs.GrownLemmas.{IsGrown-trans}
use Rattle.xls_shown_ptg.specs.Arrays.{ser_of}
use Rattle.xls_formula_leaves.specs.Answers.{behind}
use Rattle.xls_formula_leaves.proofs.ArrayLemmas.{at_end, at_fault, fault_of, one_more, values_at}
use Rattle.xls_formula_leaves.proofs.arrays.append_values.Goals as goal

pub returns-in_err-value-clause-exact : goal.returns-in_err-value-clause-exact
returns-in_err-value-clause-exact c =
    let more : c.args.count - c.values.i ≡ suc (c.args.count - (c.values.i + 1)) = omega (arith, c.values-test.true) in
    let old = chars (string_bytes c.values.out) in
    let fault = at_fault c.args.page c.args.biff c.args.columns c.values.i (c.args.count - (c.values.i + 1)) old c.values.left.now _
    c.in_err-value.ensures.exact in
    let p = err_from_is_err_and c.from_residual.result c.from_residual.ensures.1 in
    rw (p.1, p.2) (inr (fault_of (chars (string_bytes c.args.out.now)) (values_at c.args.page c.args.biff c.args.columns 0
    c.args.count c.args.bytes.now) _
    (sym c.values.invariant.so_far ∙ (ap (λ n. behind old (values_at c.args.page c.args.biff c.args.columns c.values.i n
    c.values.left.now)) more ∙ fault))))

pub returns-in_err-append_value-clause-grown : goal.returns-in_err-append_value-clause-grown
returns-in_err-append_value-clause-grown c = IsGrown-trans _ _ _ c.values.invariant.grown c.append_value.ensures.grown

pub values-preserved : goal.values-preserved
values-preserved c =
    let more : c.args.count - c.values.i ≡ suc (c.args.count - (c.values.i + 1)) = omega (arith, c.values-test.true) in
    record {
      so_far =
          one_more c.args.page c.args.biff c.args.columns c.values.i (c.args.count - (c.values.i + 1)) (chars (string_bytes
          c.values.out)) (chars (string_bytes c.append_value.new.out)) c.values.left.now
          (ser_of c.in_ok-value.value) c.in_ok-value.rest.now c.in_ok-value.ensures.exact c.in_ok-append_value.ensures.ok
          ∙ (ap (λ n. behind (chars (string_bytes c.values.out)) (values_at c.args.page c.args.biff c.args.columns c.values.i n
          c.values.left.now)) (sym more)
          ∙ c.values.invariant.so_far);
      grown = IsGrown-trans _ _ _ c.values.invariant.grown c.append_value.ensures.grown;
    }

pub returns-clause-exact : goal.returns-clause-exact
returns-clause-exact c =
    let none : 0 ≡ c.args.count - c.values.i = omega (arith, c.values-test.false) in
    sym c.values.invariant.so_far
    ∙ (sym (ap (λ n. behind (chars (string_bytes c.values.out)) (values_at c.args.page c.args.biff c.args.columns c.values.i n
    c.values.left.now)) none)
    ∙ at_end (chars (string_bytes c.values.out)) c.values.left.now)
