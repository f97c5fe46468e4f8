use Rattle.std.proofs.Common.{arith}
use Rattle.xls_open.proofs.CheckLemmas.{places_checked}
use Rattle.xls_open.proofs.check.check_sheets_of.Goals as goal

pub returns : goal.returns
returns c =
    places_checked c.args.force_codepage c.args.max_cells c.args.bytes.now c.requires.forced (λ i. omega (arith, c.type_inv.bytes i)) c.check_sheets.result c.check_sheets.ensures
