use Rattle.std.proofs.Common.{◌∙◌}
use Rattle.xls_style_cells.proofs.TableLemmas.{nothing_left}
use Rattle.xls_style_cells.proofs.marked.Marked.nothing.Goals as goal

pub returns : goal.returns
returns c = c.new.ensures ∙ nothing_left
