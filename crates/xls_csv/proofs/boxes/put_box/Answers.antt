use Rattle.std.proofs.Common.{◌≡◌, ◌+◌, ◌-◌, arith, refl}
use Rattle.xls_output.proofs.EachLemmas.{each-some-first, each-some-next}
use Rattle.xls_csv.specs.Walk.{no_cell}
use Rattle.xls_csv.proofs.WalkLemmas.{rows_from}
use Rattle.xls_csv.proofs.RowLemmas.{box_all, box_stop, one, puts_box_stop}
use Rattle.xls_csv.proofs.boxes.put_box.Goals as goal

pub loop-i-init : goal.loop-i-init
loop-i-init g c =
    let box = c.args.extent in
    let none : box.height - 0 ≡ box.height = omega arith in
    let here : box.top + 0 ≡ box.top = omega arith in
    each-some-first _ one _ _ _ (rw (none, here) refl)

pub returns-in_err-put_row : goal.returns-in_err-put_row
returns-in_err-put_row g c =
    let box = c.args.extent in
    puts_box_stop _ _ c.from_residual.result c.from_residual.ensures.1
    (box_stop c.loop-i.invariant (rows_from no_cell box.height box.top box.left box.width c.loop-i.i c.loop-i.cells c.loop-i-test.true) c.in_err-put_row.ensures.puts)

pub loop-i-preserved : goal.loop-i-preserved
loop-i-preserved g c =
    let box = c.args.extent in
    rw c.in_ok-put_row.ensures.cells
    (each-some-next one c.loop-i.invariant (rows_from no_cell box.height box.top box.left box.width c.loop-i.i c.loop-i.cells c.loop-i-test.true) c.in_ok-put_row.ensures.puts)

pub returns : goal.returns
returns g c =
    let box = c.args.extent in
    let none : box.height - c.loop-i.i ≡ 0 = omega (arith, c.loop-i-test.false) in
    box_all c.loop-i.invariant (rw none refl)
