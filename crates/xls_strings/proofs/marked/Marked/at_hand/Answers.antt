use Rattle.std.proofs.Common.{◌∙◌, sym, ap}
use Rattle.xls_stream.specs.StringTable.{prefix_of}
use Rattle.xls_stream.proofs.StringUnits.{prefix-marked}
use Rattle.xls_strings.proofs.marked.Marked.at_hand.Goals as goal

pub returns : goal.returns
returns c = sym (prefix-marked c.self.inside.hand.now c.self.inside.pieces) ∙ ap prefix_of c.self.view_is
