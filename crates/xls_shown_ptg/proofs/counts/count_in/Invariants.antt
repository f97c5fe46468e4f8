use Rattle.std.proofs.Common.{◌≡◌, drop}
use Rattle.xls_shown_ptg.specs.Counts.{count_in}
use Rattle.xls_shown_ptg.proofs.counts.count_in.Given as goal

abbrev pub invariant-rows : goal.invariant-rows
invariant-rows l = count_in (drop l.function-index l.table) l.iftab l.count ≡ count_in l.table l.iftab l.count
