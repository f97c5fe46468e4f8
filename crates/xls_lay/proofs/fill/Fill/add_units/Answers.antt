use Rattle.std.proofs.Common.{subst, ℕ}
use Rattle.xls_lay.specs.Filling.{TakesMarks}
use Rattle.xls_lay.proofs.FilledLemmas.{adding_more}
use Rattle.xls_lay.proofs.fill.Fill.add_units.Goals as goal

pub loop-preserved : goal.loop-preserved
loop-preserved c =
    adding_more c.args.self.now c.loop.self c.add.new.self c.args.is_wide c.args.units.now c.loop.index c.loop-test.true c.loop.invariant
    (subst (λ (n : ℕ). TakesMarks c.loop.self 1 n c.add.new.self) c.size_of_unit-size.ensures c.add.ensures)
