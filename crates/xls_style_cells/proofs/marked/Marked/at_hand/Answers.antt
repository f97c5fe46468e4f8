use Rattle.std.proofs.Common.{◌∙◌, sym, ap}
use Rattle.xls_stream.specs.StringTable.{prefix_of}
use Rattle.xls_stream.proofs.StringUnits.{prefix-marked}
use Rattle.xls_style_cells.specs.Walking.{continues}
use Rattle.xls_style_cells.proofs.marked.Marked.at_hand.Goals as goal

pub returns : goal.returns
returns c = sym (prefix-marked c.self.inside.hand.now (continues c.self.inside.rest.now)) ∙ ap prefix_of c.self.view_is
