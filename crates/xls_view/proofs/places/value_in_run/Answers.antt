use Rattle.std.proofs.Common.{◌≡◌, ◌-◌, ◌+◌, ℕ, List, Some, sym, ap, ◌∙◌, arith}
use Rattle.std.specs.Prelude.{slice_get}
use Rattle.std.specs.Option.{option_map}
use Rattle.xls_biff.specs.Cells.{CellEntry}
use Rattle.xls_biff.specs.Records.Rk.{first_column, mul_rk_count, rk_cell}
use Rattle.xls_meaning.specs.Settings.{Settings}
use Rattle.xls_view.proofs.PlaceLemmas.{get_past_run, get_run, run_is}
use Rattle.xls_view.proofs.places.value_in_run.Goals as goal

pub returns-then-nth-count : goal.returns-then-nth-count
returns-then-nth-count c = λ cells h.
    let body = c.args.body.now in
    let f = rk_cell c.args.settings.now.cells.classes c.args.settings.now.cells.is_1904 body in
    let is = run_is f (mul_rk_count body) c.in-Ok.count cells c.in-Ok.ensures.exact h in
    let nth = c.saturating_sub-nth.ensures ∙ ap (λ (n : ℕ). c.args.column - n) c.first_column.ensures.column in
    sym (ap (λ (xs : List CellEntry). option_map (λ (x : CellEntry). x.1) (slice_get xs (c.args.column - first_column body))) is
    ∙ ap (option_map (λ (x : CellEntry). x.1)) (get_past_run f 0 c.in-Ok.count (c.args.column - first_column body) (omega (arith, nth, c.if-nth-count.true))))

pub returns : goal.returns
returns c = λ cells h.
    let body = c.args.body.now in
    let s = c.args.settings.now.cells in
    let f = rk_cell s.classes s.is_1904 body in
    let is = run_is f (mul_rk_count body) c.in-Ok.count cells c.in-Ok.ensures.exact h in
    let nth = c.saturating_sub-nth.ensures ∙ ap (λ (n : ℕ). c.args.column - n) c.first_column.ensures.column in
    let cell = c.read_mul_rk-value.ensures
    ∙ ap (λ (x : Settings). rk_cell x.cells.classes x.cells.is_1904 body c.saturating_sub-nth.result) c.settings.view_is in
    let zero : 0 + (c.args.column - first_column body) ≡ c.saturating_sub-nth.result = omega (arith, nth) in
    ap (λ (x : CellEntry). Some x.1) cell
    ∙ sym (ap (λ (xs : List CellEntry). option_map (λ (x : CellEntry). x.1) (slice_get xs (c.args.column - first_column body))) is
    ∙ ap (option_map (λ (x : CellEntry). x.1)) (get_run f 0 c.in-Ok.count (c.args.column - first_column body) (omega (arith, nth, c.if-nth-count.false)))
    ∙ ap (λ (i : ℕ). Some (f i).1) zero)
