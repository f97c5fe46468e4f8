use Rattle.std.proofs.Common.{ap}
use Rattle.xls_open.specs.Globals.{State}
use Rattle.xls_beside.specs.Hidden.{hidden_in}
use Rattle.xls_beside.specs.Parts.{parts_of, sheet_lines}
use Rattle.xls_beside.proofs.LineLemmas.{delivers_as}
use Rattle.xls_beside.proofs.hidden.write_hidden.Goals as goal

pub returns : goal.returns
returns g c =
    let stream = c.args.stream.now in
    let globals = c.args.globals.now in
    let same = ap (λ (s : State). sheet_lines (hidden_in s.version stream) (parts_of globals.version globals.sheets stream) globals.sheets) c.globals.view_is in
    delivers_as c.args.form _ _ c.write_sheets.result same c.write_sheets.ensures
