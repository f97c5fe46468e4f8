use Rattle.std.proofs.Common.{◌≡◌, ◌++◌, ◌∷◌, [], ℕ, List, map, sym, ap, ◌∙◌}
use Rattle.std.specs.Prelude.{OnOk}
use Rattle.std.specs.Option.{option_map}
use Rattle.std.proofs.lemmas.List.{append-nil}
use Rattle.xls_stream.specs.Listing.{kept_group}
use Rattle.xls_biff.specs.Cells.{CellEntry}
use Rattle.xls_biff.specs.Records.Rk.{mul_rk_at}
use Rattle.xls_biff.specs.Walking.{group_of}
use Rattle.xls_data.specs.Content.{Content}
use Rattle.xls_meaning.specs.SheetTable.{adds, listed_cell}
use Rattle.xls_view.specs.Formats.{FormattedCell, with_formats, xf_at, xf_in}
use Rattle.xls_view.specs.Formatting.{place_of}
use Rattle.xls_view.specs.Placed.{FormattedPlace, cell_placed}
use Rattle.xls_view.specs.Values.{bare_entry}
use Rattle.xls_view.proofs.FormatLemmas.{own_formats}
use Rattle.xls_view.proofs.PlaceLemmas.{apart, on_ok, place_one, put_all, run_placed, run_pushed}
use Rattle.xls_view.proofs.places.push_cells.Goals as goal

pub returns-then-r-eq-MUL_RK : goal.returns-then-r-eq-MUL_RK
returns-then-r-eq-MUL_RK c = λ g part h here.
    let s = c.args.settings.now in
    let k = kept_group (group_of c.args.r.now) in
    let old = c.args.places.now in
    let cells = (adds s.formulas c.args.last.at g).cells in
    let xf = xf_at k.body in
    let typ = c.if-r-eq-MUL_RK.true in
    let line = rw typ at h in
    let same = own_formats k c.args.last.xf 0 cells typ in
    on_ok c.push_run.result (λ e. put_all s part old c.push_run.new.places (map (place_of c.args.offset) (with_formats xf 0 cells)) (with_formats (xf_in c.args.last.xf k) 0 cells) e
    (run_placed s part c.args.offset c.args.last.at k xf g here typ line ∙ sym same))
    (run_pushed (λ (es : List CellEntry). OnOk c.push_run.result (c.push_run.new.places ≡ old ++ map (place_of c.args.offset) (with_formats xf 0 es))) _ _ g
    (mul_rk_at s.cells.classes s.cells.is_1904 c.args.r.now.body.now) line c.push_run.ensures)

pub returns-in-Some : goal.returns-in-Some
returns-in-Some c = λ g part h here.
    let s = c.args.settings.now in
    let k = kept_group (group_of c.args.r.now) in
    let old = c.args.places.now in
    let cells = (adds s.formulas c.args.last.at g).cells in
    let xf = xf_in c.args.last.xf k in
    let x = bare_entry c.in-Some.cell in
    let place : FormattedPlace = (c.in-Some.cell.position, record { offset = c.args.offset; xf = c.xf_in-xf.result }) in
    let one : x ∷ [] ≡ cells = ap (λ o. listed_cell (option_map bare_entry o)) (sym c.in-Some.is) ∙ c.cell_of.ensures g h in
    let found : cell_placed s part place ≡ (x.0, (x.1, xf 0)) =
    ap (λ (v : Content). formatted x.0 v c.xf_in-xf.result) (place_one s part c.args.offset c.args.last.at k g x here (apart k c.if-r-eq-MUL_RK.false) h one)
    ∙ ap (formatted x.0 x.1) c.xf_in-xf.ensures in
    on_ok c.push_place.result (λ e. put_all s part old c.push_place.new.places (place ∷ []) (with_formats xf 0 cells) e
    (ap (λ (y : FormattedCell). y ∷ []) found ∙ ap (with_formats xf 0) one))
    c.push_place.ensures
  where
    formatted : ℕ × ℕ → Content → ℕ → FormattedCell
    formatted p v n = (p, (v, n))

pub returns-in-None : goal.returns-in-None
returns-in-None c = λ g part h here.
    let s = c.args.settings.now in
    let k = kept_group (group_of c.args.r.now) in
    let xf = xf_in c.args.last.xf k in
    let none = ap (with_formats xf 0) (ap (λ o. listed_cell (option_map bare_entry o)) (sym c.in-None.is) ∙ c.cell_of.ensures g h) in
    sym (append-nil (map (cell_placed s part) c.args.places.now)) ∙ ap (λ (l : List FormattedCell). map (cell_placed s part) c.args.places.now ++ l) none
