use Rattle.std.proofs.Common.{map, take}
use Rattle.xls_open.specs.Workbook.{code_texts}
use Rattle.xls_cell_formats.specs.Kept.{AreLast}
use Rattle.xls_cell_formats.proofs.places.last_places.Given as goal

-- those of the formats so far
abbrev pub invariant-loop-k : goal.invariant-loop-k
invariant-loop-k l = AreLast (map code_texts l.codes) (map code_texts (take l.k l.codes)) l.places.items
