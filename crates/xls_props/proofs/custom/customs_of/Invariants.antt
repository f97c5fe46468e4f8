use Rattle.std.proofs.Common.{◌≤◌, List, drop, length}
use Rattle.xls_props.specs.Names.{Name, HasNames}
use Rattle.xls_props.specs.Custom.{customs_of}
use Rattle.xls_props.specs.Walked.{IsWalked}
use Rattle.xls_props.proofs.custom.customs_of.Given as goal

-- the entries from left on are walked
abbrev pub invariant-entries : goal.invariant-entries
invariant-entries l = record {
  within : l.left ≤ length l.entries;
  walked : (ns : List Name) → HasNames l.fn.names ns → IsWalked ns (customs_of ns l.page l.s (drop l.left l.entries)) l.walk.found l.walk.names;
}

abbrev pub decreases-entries : goal.decreases-entries
decreases-entries l = l.left
