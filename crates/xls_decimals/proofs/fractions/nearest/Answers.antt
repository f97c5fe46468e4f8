use Rattle.std.proofs.Common.{sym, arith}
use Rattle.xls_decimals.proofs.FractionLemmas.{nearest_below, nearest_above, nearest_tie}
use Rattle.xls_decimals.proofs.fractions.nearest.Goals as goal

pub returns-then-twice-down : goal.returns-then-twice-down
returns-then-twice-down c = sym (nearest_below c.args.up c.args.down (omega arith))

pub returns-then-twice-down-2 : goal.returns-then-twice-down-2
returns-then-twice-down-2 c = sym (nearest_above c.args.up c.args.down (omega arith))

pub returns-else-twice-down-2 : goal.returns-else-twice-down-2
returns-else-twice-down-2 c = sym (nearest_tie c.args.up c.args.down (omega arith))
