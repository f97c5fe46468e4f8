use Rattle.std.proofs.Common.{refl, rules}
use Rattle.xls_strings.proofs.MarkLemmas.{not_at_end}
use Rattle.xls_strings.proofs.marked.Marked.take_mark.Goals as goal

pub returns-then-not-is_empty : goal.returns-then-not-is_empty
returns-then-not-is_empty c = (refl, not_at_end c.self.inside.hand.now c.self.inside.pieces c.args.self.now c.self.view_is (search rules))
