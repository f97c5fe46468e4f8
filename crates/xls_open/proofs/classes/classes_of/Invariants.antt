use Rattle.std.proofs.Common.{◌≡◌, map, take}
use Rattle.xls_meaning.specs.Settings.{class_in, classed}
use Rattle.xls_open.specs.Workbook.{code_texts}
use Rattle.xls_open.proofs.classes.classes_of.Given as goal

-- the classes of the identifiers so far
abbrev pub invariant-loop-identifier : goal.invariant-loop-identifier
invariant-loop-identifier l = l.classes.items ≡ map (class_in (classed (map code_texts l.codes))) (take l.identifier-index l.identifiers)
