use Rattle.std.proofs.Common.{◌≡◌, ◌+◌, ◌-◌, arith, refl}
use Rattle.xls_output.proofs.EachLemmas.{each-some-first, each-some-next}
use Rattle.xls_csv.specs.Walk.{no_cell}
use Rattle.xls_csv.proofs.RowLemmas.{box_all, box_stop, one, puts_box_stop}
use Rattle.xls_csv.proofs.SeenLemmas.{row_hidden, row_seen, some_as}
use Rattle.xls_csv.proofs.seen.put_seen_rows.Goals.{then-is_row_hidden, else-is_row_hidden+in_ok-put_seen_row}
use Rattle.xls_csv.proofs.seen.put_seen_rows.Goals as goal

pub loop-i-init : goal.loop-i-init
loop-i-init g c =
    let box = c.args.extent in
    let none : box.height - 0 ≡ box.height = omega arith in
    let here : box.top + 0 ≡ box.top = omega arith in
    each-some-first _ one _ _ _ (rw (none, here) refl)

pub returns-in_err-put_seen_row : goal.returns-in_err-put_seen_row
returns-in_err-put_seen_row g c =
    let box = c.args.extent in
    puts_box_stop _ _ c.from_residual.result c.from_residual.ensures.1
    (box_stop c.loop-i.invariant
    (row_seen c.args.hidden.now box.top c.loop-i.i box.left box.width box.height c.loop-i.cells _ c.loop-i-test.true (grind (arith, c.is_row_hidden.ensures, c.if-is_row_hidden.false)) refl)
    c.in_err-put_seen_row.ensures.puts)

pub loop-i-preserved : goal.loop-i-preserved
loop-i-preserved g c =
    let box = c.args.extent in
    elim c.if-is_row_hidden.branch [
      | then-is_row_hidden w ↦
          rw (w.out-is, w.cells-is)
          (some_as (row_hidden c.args.hidden.now box.top c.loop-i.i box.left box.width box.height c.loop-i.cells _ c.loop-i-test.true (grind (arith, c.is_row_hidden.ensures, w.if-is_row_hidden.true)) w.skip_row.ensures)
          c.loop-i.invariant)
      | else-is_row_hidden+in_ok-put_seen_row w ↦
          rw (w.out-is, w.cells-is)
          (each-some-next one c.loop-i.invariant
          (row_seen c.args.hidden.now box.top c.loop-i.i box.left box.width box.height c.loop-i.cells _ c.loop-i-test.true (grind (arith, c.is_row_hidden.ensures, w.if-is_row_hidden.false)) w.in_ok-put_seen_row.ensures.cells)
          w.in_ok-put_seen_row.ensures.puts)
    ]

pub returns : goal.returns
returns g c =
    let box = c.args.extent in
    let none : box.height - c.loop-i.i ≡ 0 = omega (arith, c.loop-i-test.false) in
    box_all c.loop-i.invariant (rw none refl)
