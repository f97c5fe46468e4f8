use Rattle.std.proofs.Common.{◌≡◌, drop}
use Rattle.xls_props.specs.Entries.{first_of}
use Rattle.xls_props.proofs.entries.first_of.Given as goal

-- the first is among the entries left
abbrev pub invariant-entries : goal.invariant-entries
invariant-entries l = first_of l.number (drop l.entry-index l.entries) ≡ first_of l.number l.entries
