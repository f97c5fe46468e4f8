use Rattle.std.proofs.Common.{◌∙◌}
use Rattle.std.proofs.lemmas.List.{take-replicate}
use Rattle.xls_rounding.proofs.formula_numbers.zeros.Goals as goal

pub returns : goal.returns
returns c = c.split_at.ensures.front ∙ take-replicate c.args.n 20 48 c.requires
