use Rattle.std.proofs.lemmas.List.{drop_all}
use Rattle.xls_beside_arrays.proofs.LaidLemmas.{partly-all, partly-next}
use Rattle.xls_beside_arrays.proofs.ListLemmas.{drop-next}
use Rattle.xls_beside_arrays.proofs.styles.lay_damages.Goals as goal
use Rattle.xls_beside_arrays.specs.Styles.{with_damaged}

pub loop-damage-preserved : goal.loop-damage-preserved
loop-damage-preserved c =
    partly-next with_damaged c.loop-damage.invariant
    (drop-next c.args.damages.now c.loop-damage.damage-index _ c.loop-damage-test.true)
    c.in_ok-lay_damaged.ensures.same c.in_ok-lay_damaged.ensures.ok

pub returns-clause-ok : goal.returns-clause-ok
returns-clause-ok c =
    partly-all with_damaged c.loop-damage.invariant (drop_all c.loop-damage.damage-index c.args.damages.now c.loop-damage-test.false)
