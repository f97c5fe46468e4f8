use Rattle.std.proofs.Common.{refl, ap, rules}
use Rattle.xls_strings.proofs.MarkLemmas.{not_at_end}
use Rattle.xls_other_books.specs.Strings.{Left, continues}
use Rattle.xls_other_books.proofs.marked.Marked.take_mark.Goals as goal

pub returns-then-not-is_empty-clause-mark : goal.returns-then-not-is_empty-clause-mark
returns-then-not-is_empty-clause-mark c =
    (refl, not_at_end c.self.inside.hand.now (continues c.self.inside.records) c.args.self.now.marks (ap (λ (l : Left). l.marks) c.self.view_is) (search rules))
