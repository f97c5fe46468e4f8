use Rattle.std.proofs.Common.{sym, ap, ◌∙◌, ◌∷◌, ◌+◌, ◌-◌, map, arith}
use Rattle.std.specs.List.{range_with_len}
use Rattle.xls_biff.specs.Cells.{CellEntry}
use Rattle.xls_biff.specs.Records.Rk.{rk_cell}
use Rattle.xls_view.specs.Formats.{FormattedCell, formatted_rk, with_format}
use Rattle.xls_view.proofs.ContentLemmas.{run_more}
use Rattle.xls_view.proofs.run.Run.next.Goals as goal

pub returns : goal.returns
returns c =
    let r = c.self.inside in
    let cell_is = formatted_rk r.classes.now r.is_1904 r.body.now in
    sym c.self.view_is ∙ run_more cell_is r.next r.count (omega (arith, c.self.invariant.0, c.if-self.false))
    ∙ ap (λ (e : FormattedCell). e ∷ map cell_is (range_with_len (r.next + 1) (r.count - (r.next + 1))))
    (sym (c.with_format.ensures
    ∙ ap (λ (x : CellEntry). with_format x c.xf_at-xf.result) (c.number_cell.ensures ∙ c.read_mul_rk-cell.ensures)
    ∙ ap (with_format (rk_cell r.classes.now r.is_1904 r.body.now r.next)) c.xf_at-xf.ensures))
