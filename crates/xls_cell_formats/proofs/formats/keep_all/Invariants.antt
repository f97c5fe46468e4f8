use Rattle.xls_cell_formats.specs.CellCodes.{code_of_identifier}
use Rattle.xls_cell_formats.specs.Kept.{AreKept}
use Rattle.xls_cell_formats.proofs.formats.keep_all.Given as goal

abbrev pub invariant-identifiers : goal.invariant-identifiers
invariant-identifiers l = AreKept (code_of_identifier l.view.codes) l.kept.places.items l.kept.formats.items
