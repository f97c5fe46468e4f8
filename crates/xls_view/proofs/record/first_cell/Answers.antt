use Rattle.std.proofs.Common.{◌≡◌, ℕ, List, Some, None, map, sym, ap, ◌∙◌}
use Rattle.std.specs.Option.{option_map}
use Rattle.std.specs.List.{range_with_len}
use Rattle.xls_stream.specs.Listing.{kept_group}
use Rattle.xls_biff.specs.Records.Rk.{rk_cell}
use Rattle.xls_biff.specs.SheetTable.{SheetRecord}
use Rattle.xls_biff.specs.Walking.{group_of}
use Rattle.xls_meaning.specs.Settings.{Settings}
use Rattle.xls_meaning.specs.SheetTable.{adds}
use Rattle.xls_view.specs.Formats.{formatted_rk, with_formats, xf_at, xf_in}
use Rattle.xls_view.specs.Walking.{run_of}
use Rattle.xls_view.proofs.FormatLemmas.{own_formats, run_formats}
use Rattle.xls_view.proofs.RecordLemmas.{not_refused, only_cell, read_as, run_cells, run_steps, run_typ}
use Rattle.xls_view.proofs.record.first_cell.Goals as goal

pub returns-in-Err : goal.returns-in-Err
returns-in-Err c = λ g h.
    let s = c.args.settings.now in
    let version = ap (λ (x : Settings). x.cells.version) (sym c.settings.view_is) in
    not_refused _ c.in-Err.field-0 g (c.in-Err.ensures.exact s.cells version) h

pub returns-in-Some : goal.returns-in-Some
returns-in-Some c = λ g h.
    let s = c.args.settings.now in
    let last = c.args.last in
    let k = kept_group (group_of c.args.r.now) in
    let xf = xf_in last.xf k in
    let body = c.in-Some.body.now in
    let count = c.in-Some.count in
    let cell = rk_cell s.cells.classes s.cells.is_1904 body in
    let version = ap (λ (x : Settings). x.cells.version) (sym c.settings.view_is) in
    let same = read_as _ _ g (c.in-Ok.ensures.exact s.cells version) h in
    let is : run_of c.in-Ok.read ≡ Some (body, count) = sym c.run_of.ensures ∙ ap (option_map (λ x. (x.0.now, x.1))) c.in-Some.is in
    let typed = run_typ k.typ k.body c.in-Ok.read body count c.in-Ok.ensures.items is in
    run_steps _ _ c.next.result c.next.new.self
    (ap (λ (x : SheetRecord). with_formats xf 0 (adds s.formulas last.at x).cells) (sym same)
    ∙ ap (with_formats xf 0) (run_cells s last.at c.in-Ok.read body count is)
    ∙ own_formats k last.xf 0 (map cell (range_with_len 0 count)) typed.0
    ∙ ap (λ (b : List ℕ). with_formats (xf_at b) 0 (map cell (range_with_len 0 count))) (sym typed.1)
    ∙ run_formats cell (xf_at body) 0 count
    ∙ ap (λ (x : Settings). map (formatted_rk x.cells.classes x.cells.is_1904 body) (range_with_len 0 count)) (sym c.settings.view_is))
    (rw c.new.ensures at c.next.ensures)

pub returns-in-None : goal.returns-in-None
returns-in-None c = λ g h.
    let s = c.args.settings.now in
    let last = c.args.last in
    let xf = xf_in last.xf (kept_group (group_of c.args.r.now)) in
    let version = ap (λ (x : Settings). x.cells.version) (sym c.settings.view_is) in
    let same = read_as _ _ g (c.in-Ok.ensures.exact s.cells version) h in
    let none : run_of c.in-Ok.read ≡ None = sym c.run_of.ensures ∙ ap (option_map (λ x. (x.0.now, x.1))) c.in-None.is in
    only_cell c.formatted_cell.result _ c.args.run.now
    (c.formatted_cell.ensures none ∙ ap (λ (x : SheetRecord). with_formats xf 0 (adds s.formulas last.at x).cells) same) c.requires
