use Rattle.xls_range.proofs.CellLemmas.{fills_its_box}
use Rattle.xls_range.proofs.laws.fills_its_box.Goals as goal

pub returns : goal.returns
returns g c = fills_its_box
