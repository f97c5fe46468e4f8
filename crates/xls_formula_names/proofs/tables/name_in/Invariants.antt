use Rattle.std.proofs.Common.{◌≡◌, drop, map}
use Rattle.xls_formula_names.specs.Tables.{name_in, row_of}
use Rattle.xls_formula_names.proofs.tables.name_in.Given as goal

abbrev pub invariant-rows : goal.invariant-rows
invariant-rows l = name_in (map row_of (drop l.found-index l.table)) l.number ≡ name_in (map row_of l.table) l.number
