use Rattle.std.proofs.Common.{◌≡◌, map, take}
use Rattle.xls_open.specs.Workbook.{name_texts}
use Rattle.xls_open.proofs.names.names_of.Given as goal

-- the names so far
abbrev pub invariant-loop-name : goal.invariant-loop-name
invariant-loop-name l = l.names ≡ map name_texts (take l.name-index l.reported)
