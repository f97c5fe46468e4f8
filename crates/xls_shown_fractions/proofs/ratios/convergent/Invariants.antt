use Rattle.std.proofs.Common.{◌≡◌}
use Rattle.xls_shown_fractions.specs.Ratios.{quotients, last_within}
use Rattle.xls_shown_fractions.proofs.ratios.convergent.Given as goal

abbrev pub invariant-quotients : goal.invariant-quotients
invariant-quotients l = record {
  same : last_within l.most l.before l.last (quotients l.left l.rest) ≡ last_within l.most (1, 0) (0, 1) (quotients 45 l.fn.x);
}

abbrev pub decreases-quotients : goal.decreases-quotients
decreases-quotients l = l.left
