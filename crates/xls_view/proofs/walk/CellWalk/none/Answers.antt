use Rattle.std.proofs.Common.{refl, []}
use Rattle.xls_view.specs.Formats.{last_formula}
use Rattle.xls_view.proofs.ContentLemmas.{no_formatted, nothing_left}
use Rattle.xls_view.proofs.walk.CellWalk.none.Goals as goal

pub invariant_of-result : goal.invariant_of-result
invariant_of-result c = rw c.new.ensures ((nothing_left c.args.settings.now ([], 0) refl).1)

pub returns : goal.returns
returns c = rw (c.new.ensures, c.none-2.ensures) (no_formatted c.args.settings.now ([], 0) (last_formula c.none.result) (nothing_left c.args.settings.now ([], 0) refl).0)
