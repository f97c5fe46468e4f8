use Rattle.std.proofs.Common.{◌≡◌, []}
use Rattle.xls_parts.specs.PartRecords.{own_records}
use Rattle.xls_formula_books.specs.Lists.{sheet_refs}
use Rattle.xls_formula_books.specs.Sources.{sources_view}
use Rattle.xls_formula_books.proofs.lists.read_own_refs.Given as goal

-- what comes of those that are left behind those that were read is all
abbrev pub invariant-records : goal.invariant-records
invariant-records l = sheet_refs l.encoding (sources_view l.found.items) l.r-iterator ≡ sheet_refs l.encoding [] (own_records l.offset l.part)
