use Rattle.std.proofs.Common.{◌≡◌, ◌++◌, ◌-◌, List}
use Rattle.xls_props.specs.Names.{Name, names_from, HasNames}
use Rattle.xls_props.proofs.names.names_from.Given as goal

-- the names so far, with those of the bytes left, are all
abbrev pub invariant-names : goal.invariant-names
invariant-names l = (prefix : List Name) × HasNames l.names prefix
    × (prefix ++ names_from (l.count - l.counter) l.page l.rest ≡ names_from l.count l.page l.bytes)
