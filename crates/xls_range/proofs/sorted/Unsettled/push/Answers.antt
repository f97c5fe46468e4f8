use Rattle.std.proofs.Common.{arith}
use Rattle.xls_range.proofs.NumberLemmas.{number_next}
use Rattle.xls_range.proofs.sorted.Unsettled.push.Goals as goal

pub invariant_of-self-2 : goal.invariant_of-self-2
invariant_of-self-2 g c =
    number_next c.self.inside.input.items c.push.new.self.items (record { cell = c.args.cell; number = c.len-number.result }) c.self.invariant
    (omega (arith, c.len-number.ensures)) c.in_ok-push.ensures.items
