use Rattle.std.proofs.Common.{◌≡◌, ◌++◌, map}
use Rattle.xls_defined_names.specs.Names.{name_view, names_in, names_of}
use Rattle.xls_defined_names.proofs.names.DefinedNames.read.Given as goal

abbrev pub invariant-records : goal.invariant-records
invariant-records l =
    (goal.iterator-records).can_next l.r-iterator ×
    (goal.iterator-records).is_finite l.r-iterator ×
    (map name_view l.names.items ++ names_of l.encoding l.version l.stream l.r-iterator ≡ names_in l.encoding l.version l.stream)
