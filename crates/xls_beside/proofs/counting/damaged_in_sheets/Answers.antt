use Rattle.std.proofs.Common.{List, ap, map, ◌∙◌}
use Rattle.xls_open.specs.Globals.{State, Sheets, listed_of}
use Rattle.xls_open.specs.declared.listed.Listed.{Listed}
use Rattle.xls_record.specs.declared.version.Biff.{Biff}
use Rattle.xls_beside.specs.Lines.{Line}
use Rattle.xls_beside.specs.Parts.{parts_of, sheet_lines}
use Rattle.xls_beside.proofs.DamagedLemmas.{counts_as}
use Rattle.xls_beside.proofs.counting.damaged_in_sheets.Goals as goal

pub returns : goal.returns
returns g c =
    let lines : Biff → Sheets → List Line = λ v s. sheet_lines (g.T.Damages.lines c.args.things.now) (parts_of v s c.args.stream.now) s in
    let listed = ap (λ (l : List Listed). lines c.globals.inside.version (map listed_of l)) c.deref.ensures.value in
    let same = ap (λ (s : State). lines s.version s.sheets) c.globals.view_is in
    counts_as c.damaged_of_listed.result (listed ∙ same) c.damaged_of_listed.ensures
