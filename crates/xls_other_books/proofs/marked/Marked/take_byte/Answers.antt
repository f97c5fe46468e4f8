use Rattle.std.proofs.Common.{refl, ap}
use Rattle.xls_strings.proofs.MarkLemmas.{at_end}
use Rattle.xls_other_books.specs.Strings.{Left, continues}
use Rattle.xls_other_books.proofs.marked.Marked.take_byte.Goals as goal

pub returns-in_err-first-clause-byte : goal.returns-in_err-first-clause-byte
returns-in_err-first-clause-byte c =
    rw c.from_residual.ensures (refl, at_end c.self.inside.hand.now (continues c.self.inside.records) c.args.self.now.marks (ap (λ (l : Left). l.marks) c.self.view_is) c.in_err-first.ensures.cases)
