use Rattle.xls_formula_shown.proofs.WalkLemmas.{changed_by_name}
use Rattle.xls_formula_shown.proofs.walk.State.change.Goals as goal

pub returns-in-CallByName : goal.returns-in-CallByName
returns-in-CallByName c =
    changed_by_name c.args.effect c.in-CallByName.field-0 c.put-in-CallByName.result c.put-in-CallByName.new.self c.args.self.now c.in-CallByName.is c.put-in-CallByName.ensures
