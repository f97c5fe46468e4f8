use Rattle.xls_formula_shown.proofs.MarkLemmas.{stripped}
use Rattle.xls_formula_shown.proofs.held.behind_text.Goals as goal

pub returns : goal.returns
returns c = stripped c.args.prefix.now c.args.name.now c.strip_prefix.result c.utf8.prefix c.utf8.name c.strip_prefix.ensures.cases
