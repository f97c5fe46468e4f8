use Rattle.std.proofs.Common.{refl}
use Rattle.xls_strings.proofs.MarkLemmas.{at_end}
use Rattle.xls_style_cells.specs.Walking.{continues}
use Rattle.xls_style_cells.proofs.marked.Marked.take_byte.Goals as goal

pub returns-in_err-first : goal.returns-in_err-first
returns-in_err-first c = rw c.from_residual.ensures (refl, at_end c.self.inside.hand.now (continues c.self.inside.rest.now) c.args.self.now c.self.view_is c.in_err-first.ensures.cases)
