use Rattle.std.proofs.Common.{◌-◌, ◌∙◌}
use Rattle.xls_biff.specs.Records.Rk.{first_column, mul_rk_at}
use Rattle.xls_view.proofs.PlaceLemmas.{or_blank, value_run}
use Rattle.xls_view.proofs.places.value_in.Goals as goal

pub returns-then-r-eq-MUL_RK : goal.returns-then-r-eq-MUL_RK
returns-then-r-eq-MUL_RK c = λ g h.
    let s = c.args.settings.now.cells in
    let body = c.args.r.now.body.now in
    rw c.if-r-eq-MUL_RK.true
    (or_blank c.value_in_run.result
    ∙ value_run c.args.settings.now c.args.position (c.args.position.1 - first_column body) _ g (mul_rk_at s.classes s.is_1904 body) (rw c.if-r-eq-MUL_RK.true at h) c.value_in_run.ensures)
