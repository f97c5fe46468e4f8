use Rattle.std.proofs.Common.{◌≡◌, drop}
use Rattle.std.specs.Option.{option_or}
use Rattle.xls_props.specs.Entries.{last_of}
use Rattle.xls_props.proofs.entries.last_of.Given as goal

-- the last of the entries left, or else what was found, is the last of all
abbrev pub invariant-entries : goal.invariant-entries
invariant-entries l = option_or (last_of l.number (drop l.entry-index l.entries)) l.found ≡ last_of l.number l.entries
