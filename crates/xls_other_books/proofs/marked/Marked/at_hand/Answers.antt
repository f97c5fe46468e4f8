use Rattle.std.proofs.Common.{◌∙◌, sym, ap}
use Rattle.xls_stream.specs.StringTable.{prefix_of}
use Rattle.xls_stream.proofs.StringUnits.{prefix-marked}
use Rattle.xls_other_books.specs.Strings.{Left, continues}
use Rattle.xls_other_books.proofs.marked.Marked.at_hand.Goals as goal

pub returns : goal.returns
returns c = sym (prefix-marked c.self.inside.hand.now (continues c.self.inside.records)) ∙ ap (λ (l : Left). prefix_of l.marks) c.self.view_is
