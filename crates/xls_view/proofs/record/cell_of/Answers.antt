use Rattle.std.proofs.Common.{sym, ap, ◌∙◌}
use Rattle.xls_biff.specs.SheetTable.{SheetRecord}
use Rattle.xls_meaning.specs.Settings.{Settings}
use Rattle.xls_meaning.specs.SheetTable.{adds}
use Rattle.xls_view.proofs.RecordLemmas.{no_run, not_refused, read_as}
use Rattle.xls_view.proofs.record.cell_of.Goals as goal
use Rattle.xls_view.proofs.record.cell_of.Goals.{in-Ok, in-Err}

pub returns : goal.returns
returns c = λ g h.
    let s = c.args.settings.now in
    let r = c.args.r.now in
    let version = ap (λ (x : Settings). x.cells.version) (sym c.settings.view_is) in
    elim c.match-read_sheet_record.branch [
      | in-Ok w ↦
          rw w.result-is
          (w.single_cell.ensures (no_run r.typ r.body.now w.in-Ok.read w.in-Ok.ensures.items c.requires)
          ∙ ap (λ (x : SheetRecord). (adds s.formulas c.args.at x).cells) (read_as _ _ g (w.in-Ok.ensures.exact s.cells version) h))
      | in-Err w ↦ not_refused _ w.in-Err.field-0 g (w.in-Err.ensures.exact s.cells version) h
    ]
