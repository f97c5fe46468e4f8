use Rattle.std.proofs.Common.{◌∙◌, ap, sym, codes, true, Ok, Err, inr}
use Rattle.std.proofs.lemmas.Result.{err_from_is_err_and}
use Rattle.std.specs.Str.{chars}
use Rattle.xls_formula_shown.specs.Steps.{changed, joined}
use Rattle.xls_formula_shown.proofs.PutLemmas.{closed, named_few, named_is, some_joined, two_of}
use Rattle.xls_formula_shown.proofs.puts.put_call_by_first.Goals as goal

pub returns-in_err-need : goal.returns-in_err-need
returns-in_err-need c =
    let p = err_from_is_err_and c.from_residual.result c.from_residual.ensures.1 in
    rw (p.1, p.2) (inr (named_few c.args.count c.args.waiting.now c.args.stack.now c.in_err-need.ensures.1 ∙ ap (λ e. Err e) (sym c.in_err-need.ensures.0)))

pub join_called-requires : goal.join_called-requires
join_called-requires c = two_of c.args.count c.gather.new.stack c.args.stack.now c.in_ok-gather.ensures c.if-count-eq0.false c.in_ok-need.ensures

pub close-requires : goal.close-requires
unfolding chars
close-requires c =
    some_joined true (codes "(") c.join_called.new.self c.gather.new.stack c.in_ok-join_called.ensures
    (two_of c.args.count c.gather.new.stack c.args.stack.now c.in_ok-gather.ensures c.if-count-eq0.false c.in_ok-need.ensures)

pub returns : goal.returns
unfolding chars
returns c =
    let w = c.args.waiting.now in
    named_is c.args.count w c.args.stack.now c.if-count-eq0.false c.in_ok-need.ensures
    ∙ ap (λ x. Ok x) (sym (c.in_ok-close.ensures
    ∙ (ap (changed (closed w)) c.in_ok-join_called.ensures
    ∙ ap (λ x. changed (closed w) (joined true (codes "(") x)) c.in_ok-gather.ensures)))
