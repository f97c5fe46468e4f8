use Rattle.std.proofs.Common.{◌<◌, ◌+◌, arith, sym, ap, ◌∙◌}
use Rattle.xls_shown_numbers.specs.Plain.{size}
use Rattle.std.proofs.Common.{◌*◌, ◌^◌}
use Rattle.xls_shown_numbers.proofs.NumberLemmas.{size_is, size_none}
use Rattle.xls_shown_numbers.proofs.number.size.Goals as goal

pub returns-then-n-eq0-clause-value : goal.returns-then-n-eq0-clause-value
returns-then-n-eq0-clause-value c = size_none c.args.n.zeros ∙ sym (ap (λ d. size (d * 10 ^ c.args.n.zeros)) c.if-n-eq0.true)

pub returns-else-n-eq0-clause-value : goal.returns-else-n-eq0-clause-value
returns-else-n-eq0-clause-value c =
    let some : 0 < c.args.n.digits = omega (arith, c.if-n-eq0.false) in
    ap (λ t. t + c.args.n.zeros) c.long_places.ensures.value ∙ size_is c.args.n.digits c.args.n.zeros some (omega arith)
