use Rattle.std.proofs.Common.{rules, sym}
use Rattle.std.proofs.lemmas.Bool.{eqb-true}
use Rattle.xls_strings.proofs.SstLemmas.{is_over, not_over}
use Rattle.xls_style_cells.specs.Walking.{continues}
use Rattle.xls_style_cells.proofs.marked.Marked.is_over.Goals as goal

pub returns-then-is_empty : goal.returns-then-is_empty
returns-then-is_empty c = is_over c.self.inside.hand.now (continues c.self.inside.rest.now) c.args.self.now c.is_last.result c.self.view_is (eqb-true _ _ (sym c.if-is_empty.ensures)) c.is_last.ensures

pub returns-else-is_empty : goal.returns-else-is_empty
returns-else-is_empty c = not_over c.self.inside.hand.now (continues c.self.inside.rest.now) c.args.self.now c.is_empty.result c.self.view_is (search rules) c.if-is_empty.false
