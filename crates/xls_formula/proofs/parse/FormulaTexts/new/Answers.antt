use Rattle.std.proofs.Common.{ap, ◌∙◌}
use Rattle.std.proofs.lemmas.Str.{chars-nil}
use Rattle.std.specs.Str.{chars}
use Rattle.xls_formula.proofs.parse.FormulaTexts.new.Goals as goal

pub returns : goal.returns
returns c = ap chars c.new-2.ensures.items ∙ chars-nil
