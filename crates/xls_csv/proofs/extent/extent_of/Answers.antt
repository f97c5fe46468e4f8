use Rattle.std.proofs.Common.{sym, ◌∙◌}
use Rattle.xls_csv.proofs.ExtentLemmas.{corners_ordered}
use Rattle.xls_csv.proofs.extent.extent_of.Goals as goal

pub extent_between-requires-clause-rows : goal.extent_between-requires-clause-rows
extent_between-requires-clause-rows c =
    (corners_ordered c.args.cells.now c.in-Some.bounds (sym c.bounds.ensures ∙ c.in-Some.is)).0

pub extent_between-requires-clause-columns : goal.extent_between-requires-clause-columns
extent_between-requires-clause-columns c =
    (corners_ordered c.args.cells.now c.in-Some.bounds (sym c.bounds.ensures ∙ c.in-Some.is)).1
