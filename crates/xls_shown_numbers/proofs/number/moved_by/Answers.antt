use Rattle.std.proofs.Common.{arith}
use Rattle.std.proofs.lemmas.Int.{ints}
use Rattle.xls_shown_numbers.proofs.NumberLemmas.{moved_down}
use Rattle.xls_shown_numbers.proofs.number.moved_by.Goals as goal

pub returns-else-moved-ge0-clause-value : goal.returns-else-moved-ge0-clause-value
returns-else-moved-ge0-clause-value c =
    moved_down c.args.decimal.digits c.args.moved _ _ (omega arith) (omega (arith, ints)) (omega (arith, ints)) c.short_over_ten_to.ensures
