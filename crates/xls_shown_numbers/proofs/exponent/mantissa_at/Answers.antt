use Rattle.std.proofs.Common.{arith, ap, ◌∙◌}
use Rattle.std.proofs.lemmas.Int.{ints}
use Rattle.xls_rounding.specs.Rounding.{rounded}
use Rattle.xls_shown_numbers.proofs.exponent.mantissa_at.Goals as goal

pub returns-clause-value : goal.returns-clause-value
returns-clause-value c = c.moved_by.ensures.value ∙ ap (rounded c.args.decimal.digits) (omega (arith, ints))
