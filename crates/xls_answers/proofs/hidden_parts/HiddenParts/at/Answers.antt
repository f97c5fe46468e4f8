use Rattle.std.proofs.Common.{Some, subst}
use Rattle.xls_answers.specs.HiddenParts.{IsLastOf}
use Rattle.xls_answers.proofs.HiddenPartLemmas.{found_at}
use Rattle.xls_answers.proofs.hidden_parts.HiddenParts.at.Goals as goal

pub returns-in-Some : goal.returns-in-Some
returns-in-Some c = found_at c.args.self.now c.args.view.now c.args.index (Some c.in-Some.last) c.listed.result c.in-Some.ensures c.listed.ensures
