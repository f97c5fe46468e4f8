use Rattle.std.proofs.Common.{false, ◌∙◌}
use Rattle.xls_style_cells.specs.Tables.{bytes_in}
use Rattle.xls_style_cells.proofs.TableLemmas.{runs_none}
use Rattle.xls_style_cells.proofs.runs.Runs.none.Goals as goal

pub returns : goal.returns
returns c = c.shared.ensures ∙ runs_none false (bytes_in c.nothing.result)
