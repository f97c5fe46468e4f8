use Rattle.std.proofs.Common.{◌∙◌, ap, arith, map}
use Rattle.std.proofs.lemmas.Result.{err_from_is_err_and}
use Rattle.xls_formula.specs.Holding.{scope_context}
use Rattle.xls_refs.specs.Steps.{key_cite}
use Rattle.xls_refs.proofs.WalkLemmas.{refused, after_all, one_left, other_count}
use Rattle.xls_refs.proofs.walk.cells_of_tokens.Goals as goal

pub returns-in_err-count : goal.returns-in_err-count
returns-in_err-count c =
    let p = err_from_is_err_and c.from_residual.result c.from_residual.ensures.1 in
    rw (p.1, p.2)
    (refused (scope_context c.args.scope) c.args.tokens.now (map key_cite c.new-cites.result.items) c.in_err-count.field-0.0 (ap (map key_cite) c.new-cites.ensures.items) c.in_err-count.ensures)

-- some other count of operands is left
pub returns-then-count-ne1 : goal.returns-then-count-ne1
returns-then-count-ne1 c =
    after_all (scope_context c.args.scope) c.args.tokens.now (map key_cite c.new-cites.result.items) (map key_cite c.tally_all.new.cites.items) c.in_ok-count.count (ap (map key_cite) c.new-cites.ensures.items) c.in_ok-count.ensures
    ∙ other_count c.in_ok-count.count _ (λ e. grind arith)

pub returns : goal.returns
returns c =
    after_all (scope_context c.args.scope) c.args.tokens.now (map key_cite c.new-cites.result.items) (map key_cite c.tally_all.new.cites.items) c.in_ok-count.count (ap (map key_cite) c.new-cites.ensures.items) c.in_ok-count.ensures
    ∙ one_left c.in_ok-count.count _ (grind arith)
