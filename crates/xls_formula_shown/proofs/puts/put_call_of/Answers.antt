use Rattle.std.proofs.Common.{◌∙◌, ap, sym, codes, ◌++◌, Ok, Err, inr}
use Rattle.std.proofs.lemmas.Result.{err_from_is_err_and}
use Rattle.std.specs.Str.{chars}
use Rattle.xls_formula_shown.specs.Steps.{changed}
use Rattle.xls_formula_shown.proofs.PutLemmas.{call_few, call_is, closed, some_changed, some_of}
use Rattle.xls_formula_shown.proofs.puts.put_call_of.Goals as goal

pub returns-in_err-need : goal.returns-in_err-need
returns-in_err-need c =
    let p = err_from_is_err_and c.from_residual.result c.from_residual.ensures.1 in
    rw (p.1, p.2) (inr (call_few c.args.count (chars c.args.name.now) c.args.waiting.now c.args.stack.now c.in_err-need.ensures.1
    ∙ ap (λ e. Err e) (sym c.in_err-need.ensures.0)))

pub put_before-requires : goal.put_before-requires
put_before-requires c = some_of c.args.count c.gather.new.stack c.args.stack.now c.in_ok-gather.ensures c.in_ok-need.ensures

pub put_before-requires-2 : goal.put_before-requires-2
unfolding chars
put_before-requires-2 c =
    some_changed (λ t. codes "(" ++ t) c.put_before.new.self c.gather.new.stack c.in_ok-put_before.ensures
    (some_of c.args.count c.gather.new.stack c.args.stack.now c.in_ok-gather.ensures c.in_ok-need.ensures)

pub close-requires : goal.close-requires
unfolding chars
close-requires c =
    some_changed (λ t. chars c.args.name.now ++ t) c.put_before-2.new.self c.put_before.new.self c.in_ok-put_before-2.ensures
    (some_changed (λ t. codes "(" ++ t) c.put_before.new.self c.gather.new.stack c.in_ok-put_before.ensures
    (some_of c.args.count c.gather.new.stack c.args.stack.now c.in_ok-gather.ensures c.in_ok-need.ensures))

pub returns : goal.returns
unfolding chars
returns c =
    let w = c.args.waiting.now in
    let name = chars c.args.name.now in
    call_is c.args.count name w c.args.stack.now c.in_ok-need.ensures
    ∙ ap (λ x. Ok x) (sym (c.in_ok-close.ensures
    ∙ (ap (changed (closed w)) c.in_ok-put_before-2.ensures
    ∙ (ap (λ x. changed (closed w) (changed (λ t. name ++ t) x)) c.in_ok-put_before.ensures
    ∙ ap (λ x. changed (closed w) (changed (λ t. name ++ t) (changed (λ t. codes "(" ++ t) x))) c.in_ok-gather.ensures))))
