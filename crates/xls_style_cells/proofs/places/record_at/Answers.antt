use Rattle.std.proofs.Common.{sym}
use Rattle.xls_style_cells.proofs.PlaceLemmas.{none_past}
use Rattle.xls_style_cells.proofs.places.record_at.Goals as goal

pub returns-then-part-at : goal.returns-then-part-at
returns-then-part-at c = sym (none_past c.args.part.now c.args.at c.if-part-at.true)
