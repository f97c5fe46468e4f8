use Rattle.std.proofs.Common.{arith, pos}
use Rattle.std.specs.Prelude.{◌≤ℤ◌}
use Rattle.std.proofs.lemmas.Int.{ints}
use Rattle.xls_rounding.proofs.PlaceLemmas.{more_by}
use Rattle.xls_rounding.proofs.decimals.moved_by.Goals as goal

pub returns-in-None : goal.returns-in-None
returns-in-None c =
    let low : pos 0 ≤ℤ c.args.z = omega (arith, ints) in
    more_by c.args.n c.args.z low (omega (arith, c.in-None.ensures))
