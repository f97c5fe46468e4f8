use Rattle.std.proofs.Common.{arith}
use Rattle.xls_refs.proofs.WalkLemmas.{joined_enough, joined_few}
use Rattle.xls_refs.proofs.walk.join.Goals as goal

pub returns-in-Some : goal.returns-in-Some
returns-in-Some c =
    record {
      exact = joined_enough c.args.taken c.args.count c.in-Some.left (grind arith);
      within = grind arith;
    }

pub returns-in-None : goal.returns-in-None
returns-in-None c = record { exact = joined_few c.args.taken c.args.count (grind arith); within = tt }
