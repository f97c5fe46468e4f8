use Rattle.std.proofs.Common.{◌∙◌, ap}
use Rattle.xls_style_cells.specs.Tables.{bytes_in}
use Rattle.xls_style_cells.proofs.TableLemmas.{bytes_alone}
use Rattle.xls_style_cells.proofs.marked.Marked.alone.Goals as goal

pub returns : goal.returns
returns c = ap bytes_in c.new.ensures ∙ bytes_alone c.args.hand.now
