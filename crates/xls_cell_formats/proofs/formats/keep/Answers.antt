use Rattle.std.proofs.Common.{sym}
use Rattle.xls_cell_formats.specs.CellCodes.{code_of_identifier}
use Rattle.xls_cell_formats.proofs.KeptLemmas.{kept_under}
use Rattle.xls_cell_formats.proofs.formats.keep.Goals as goal

pub returns-in-None : goal.returns-in-None
returns-in-None c =
    kept_under c.keep.result (code_of_identifier c.args.view.now.codes) c.args.identifier _ _ _ _ _ (sym c.code_of_identifier.ensures) c.keep.ensures
