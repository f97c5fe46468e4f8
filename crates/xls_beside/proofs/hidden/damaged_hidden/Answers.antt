use Rattle.std.proofs.Common.{ap}
use Rattle.xls_open.specs.Globals.{State}
use Rattle.xls_beside.specs.Hidden.{hidden_in}
use Rattle.xls_beside.specs.Parts.{parts_of, sheet_lines}
use Rattle.xls_beside.proofs.DamagedLemmas.{counts_as}
use Rattle.xls_beside.proofs.hidden.damaged_hidden.Goals as goal

pub returns : goal.returns
returns c =
    let stream = c.args.stream.now in
    let globals = c.args.globals.now in
    let parts = parts_of globals.version globals.sheets stream in
    let same = ap (λ (s : State). sheet_lines (hidden_in s.version stream) parts globals.sheets) c.globals.view_is in
    counts_as c.damaged_in_sheets.result same c.damaged_in_sheets.ensures
