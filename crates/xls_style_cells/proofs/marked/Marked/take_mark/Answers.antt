use Rattle.std.proofs.Common.{refl, rules}
use Rattle.xls_strings.proofs.MarkLemmas.{not_at_end}
use Rattle.xls_style_cells.specs.Walking.{continues}
use Rattle.xls_style_cells.proofs.marked.Marked.take_mark.Goals as goal

pub returns-then-not-is_empty : goal.returns-then-not-is_empty
returns-then-not-is_empty c = (refl, not_at_end c.self.inside.hand.now (continues c.self.inside.rest.now) c.args.self.now c.self.view_is (search rules))
