use Rattle.std.proofs.Common.{false, refl, sym}
use Rattle.xls_style_cells.specs.Tables.{bytes_in}
use Rattle.xls_style_cells.specs.Runs.{runs_in}
use Rattle.xls_style_cells.proofs.TableLemmas.{none_of}
use Rattle.xls_style_cells.proofs.tables.runs_here.Goals as goal

pub returns-then-count-eq0 : goal.returns-then-count-eq0
returns-then-count-eq0 c = let bytes = bytes_in c.args.text.now in sym (none_of false c.args.count bytes (runs_in false c.args.count bytes) refl c.if-count-eq0.true)
