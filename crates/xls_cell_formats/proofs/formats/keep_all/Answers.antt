use Rattle.xls_cell_formats.specs.CellCodes.{code_of_identifier}
use Rattle.xls_cell_formats.proofs.formats.keep_all.Goals as goal

pub identifiers-init : goal.identifiers-init
identifiers-init c = c.in_ok-keep.ensures (c.new-kept.ensures (code_of_identifier c.args.view.now.codes))
