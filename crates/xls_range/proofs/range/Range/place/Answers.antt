use Rattle.std.proofs.Common.{rules, arith, ◌≡◌, ◌∙◌, length, take, ◌≤◌}
use Rattle.std.proofs.lemmas.List.{take_all}
use Rattle.xls_range.proofs.SparseLemmas.{Shows-blank, Shows-more}
use Rattle.xls_range.proofs.range.Range.place.Goals as goal

pub loop-cell-init : goal.loop-cell-init
loop-cell-init g c = record {
  same = search rules;
  shows = Shows-blank g.T.PartialEq.eq g.T.CellType.blank_test c.args.self.now c.requires.blank;
}

pub loop-cell-preserved : goal.loop-cell-preserved
loop-cell-preserved g c =
    let was = c.loop-cell.invariant.same in
    let is = c.put_at.ensures.same in
    record {
      same = record { top = is.top ∙ was.top; left = is.left ∙ was.left; height = is.height ∙ was.height; width = is.width ∙ was.width };
      shows = Shows-more g.T.PartialEq.eq g.T.CellType.blank_test c.args.cells.now c.loop-cell.cell-index c.cell-item.result c.in_ok-value.value c.loop-cell.self c.put_at.new.self
          c.loop-cell-test.true c.cell-item.is (rw c.get_value.ensures at c.in_ok-value.ensures) (rw c.get_position.ensures at c.put_at.ensures.written) c.loop-cell.invariant.shows;
    }

pub returns-clause-shows : goal.returns-clause-shows
returns-clause-shows g c =
    let long : length c.args.cells.now ≤ c.loop-cell.cell-index = omega arith in
    let whole : take c.loop-cell.cell-index c.args.cells.now ≡ c.args.cells.now = take_all c.loop-cell.cell-index c.args.cells.now long in
    rw whole at c.loop-cell.invariant.shows
