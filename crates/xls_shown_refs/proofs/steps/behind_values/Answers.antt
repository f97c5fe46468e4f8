use Rattle.std.proofs.Common.{◌≡◌, ℕ, ◌-◌, ◌+◌, suc, sym, ap, ◌∙◌, arith}
use Rattle.std.proofs.lemmas.Result.{err_from_is_err_and}
use Rattle.xls_shown_refs.proofs.StepLemmas.{rest_at, rest_bad, rest_one}
use Rattle.xls_shown_refs.proofs.steps.behind_values.Goals as goal

pub returns-in_err-rest : goal.returns-in_err-rest
returns-in_err-rest c =
    let more : c.args.count - c.values.i ≡ suc (c.args.count - (c.values.i + 1)) = omega (arith, c.values-test.true) in
    let p = err_from_is_err_and c.from_residual.result c.from_residual.ensures.1 in
    rw (p.1, p.2) (sym c.values.invariant
    ∙ (ap (λ (n : ℕ). rest_at c.args.biff n c.values.left.now) more
    ∙ rest_bad c.args.biff (c.args.count - (c.values.i + 1)) c.values.left.now _ c.in_err-rest.ensures.exact))

pub values-preserved : goal.values-preserved
values-preserved c =
    let more : c.args.count - c.values.i ≡ suc (c.args.count - (c.values.i + 1)) = omega (arith, c.values-test.true) in
    sym (rest_one c.args.biff (c.args.count - (c.values.i + 1)) c.values.left.now _ c.in_ok-rest.rest.now c.in_ok-rest.ensures.exact)
    ∙ (ap (λ (n : ℕ). rest_at c.args.biff n c.values.left.now) (sym more) ∙ c.values.invariant)

pub returns : goal.returns
returns c =
    let none : 0 ≡ c.args.count - c.values.i = omega (arith, c.values-test.false) in
    sym c.values.invariant ∙ ap (λ (n : ℕ). rest_at c.args.biff n c.values.left.now) (sym none)
