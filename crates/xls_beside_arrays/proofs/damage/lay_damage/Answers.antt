use Rattle.std.proofs.lemmas.Result.{on_ok_weaker}
use Rattle.xls_beside_arrays.proofs.LaidLemmas.{lays-damage}
use Rattle.xls_beside_arrays.proofs.damage.lay_damage.Goals as goal

pub returns-clause-ok : goal.returns-clause-ok
returns-clause-ok g c =
    on_ok_weaker c.lay_damage_item.result
    (lays-damage c.args.damaged c.in_ok-why.ensures.ok c.damage_item.ensures)
    c.lay_damage_item.ensures.ok
