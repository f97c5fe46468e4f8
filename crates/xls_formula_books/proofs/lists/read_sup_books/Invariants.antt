use Rattle.std.proofs.Common.{◌≡◌, [], length}
use Rattle.xls_parts.specs.PartRecords.{globals_records}
use Rattle.xls_formula_books.specs.Lists.{sup_books}
use Rattle.xls_formula_books.specs.Sources.{sources_view}
use Rattle.xls_formula_books.proofs.lists.read_sup_books.Given as goal

-- what comes of those that are left behind those that were read is all
abbrev pub invariant-records : goal.invariant-records
invariant-records l = sup_books l.encoding (sources_view l.found.items) l.records ≡ sup_books l.encoding [] (globals_records l.stream)

abbrev pub decreases-records : goal.decreases-records
decreases-records l = length l.records
