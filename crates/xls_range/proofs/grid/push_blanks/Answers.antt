use Rattle.std.proofs.Common.{rules, sym, ◌∙◌, ap, take}
use Rattle.xls_range.proofs.BlankLemmas.{AddsBlanks-zero, AddsBlanks-suc, take-AddsBlanks, if-is_ok-true, if-is_ok-false}
use Rattle.xls_range.proofs.grid.push_blanks.Goals as goal

pub loop-i-init : goal.loop-i-init
loop-i-init g c = record {
  added = rw c.reserve.ensures.items (AddsBlanks-zero g.T.CellType.blank_test c.args.cells.now.items);
  before = search rules;
}

pub loop-i-preserved : goal.loop-i-preserved
loop-i-preserved g c = record {
  added = AddsBlanks-suc g.T.CellType.blank_test c.loop-i._i c.args.cells.now.items c.loop-i.cells.items c.push.new.self.items c.blank-blank.result
      c.loop-i.invariant.added (search rules)
      (c.push.ensures.items ∙ if-is_ok-true c.push.result _ _ (sym c.is_err.ensures.value ∙ c.if-is_err.false));
  before = c.loop-i.invariant.before;
}

pub returns-then-is_err-clause-err : goal.returns-then-is_err-clause-err
returns-then-is_err-clause-err g c =
    c.truncate.ensures.items
    ∙ ap (λ xs. take c.len-before.result xs) (c.push.ensures.items ∙ if-is_ok-false c.push.result _ _ (sym c.is_err.ensures.value ∙ c.if-is_err.true))
    ∙ take-AddsBlanks g.T.CellType.blank_test c.loop-i._i c.len-before.result c.args.cells.now.items c.loop-i.cells.items c.loop-i.invariant.added c.loop-i.invariant.before
