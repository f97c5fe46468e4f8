use Rattle.std.proofs.Common.{rules, arith, ◌<◌, ◌*◌, ◌+◌, ◌≡◌, ◌∙◌, length, vec_len, inr, refl}
use Rattle.std.proofs.lemmas.List.{get_or_default}
use Rattle.std.proofs.lemmas.Nat.{mul-add-lt}
use Rattle.xls_range.proofs.MoveLemmas.{moved_step, left_step, others_step}
use Rattle.xls_range.proofs.moves.move_cells.Goals as goal

pub loop-column-preserved : goal.loop-column-preserved
loop-column-preserved g c =
    let row = c.loop-row.row in
    let column = c.loop-column.column in
    let inside : row * c.args.columns + column < c.args.rows * c.args.columns = omega (arith, mul-add-lt row c.args.columns column c.args.rows c.loop-row-test.true c.loop-column-test.true) in
    let above : row * c.args.wide + column < c.args.rows * c.args.wide = omega (arith, mul-add-lt row c.args.wide column c.args.rows c.loop-row-test.true (omega arith)) in
    let long : length c.loop-column.cells.items ≡ vec_len c.loop-column.cells = search rules in
    let far : length c.loop-column.grown.items ≡ vec_len c.loop-column.grown = search rules in
    let near : row * c.args.columns + column < length c.loop-column.cells.items = omega arith in
    record {
      moved = moved_step c.args.rows c.args.columns c.args.wide row column c.args.cells.now.items c.loop-column.cells.items c.loop-column.grown.items c.swap.new.y c.requires.narrow c.loop-column-test.true c.loop-row-test.true (omega arith) c.loop-column.invariant.moved
          (λ d. c.swap.ensures.y_after ∙ c.index_mut.ensures.value ∙ get_or_default c.loop-column.cells.items (row * c.args.columns + column) _ d near ∙ c.loop-column.invariant.left row column d c.loop-row-test.true c.loop-column-test.true (inr (refl, omega arith)));
      left = left_step c.args.rows c.args.columns row column c.args.cells.now.items c.loop-column.cells.items c.swap.new.x c.loop-column-test.true c.loop-column.invariant.left;
      others = others_step c.args.rows c.args.columns c.args.wide row column c.args.grown.now.items c.loop-column.grown.items c.swap.new.y c.loop-row-test.true c.loop-column-test.true c.loop-column.invariant.others;
      len = c.loop-column.invariant.len;
      cells_len = c.loop-column.invariant.cells_len;
    }
