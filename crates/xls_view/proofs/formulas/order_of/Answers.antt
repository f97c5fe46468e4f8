use Rattle.xls_view.proofs.SettledLemmas.{settled_same}
use Rattle.xls_view.proofs.formulas.order_of.Goals as goal

pub returns-then-is_strict : goal.returns-then-is_strict
returns-then-is_strict c = settled_same _ (c.requires.order (c.is_strict.ensures.0 c.if-is_strict.true))
