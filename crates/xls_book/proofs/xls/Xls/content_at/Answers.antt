use Rattle.std.proofs.Common.{sym, ap, subst, ◌∙◌}
use Rattle.std.specs.List.{AllByRecursion}
use Rattle.std.specs.Prelude.{slice_get}
use Rattle.xls_open.specs.Workbook.{IsOrdered}
use Rattle.xls_view.proofs.IndexLemmas.{all_looked, looked}
use Rattle.xls_book.proofs.xls.Xls.content_at.Goals as goal

pub returns-clause-found : goal.returns-clause-found
returns-clause-found c =
    let at = c.get.ensures.lookup in
    rw (← c.self.view_is)
    (looked c.deref.result.now c.args.n c.get.result at.0 at.1
    ∙ ap (λ vs. slice_get vs c.args.n) c.deref.ensures.value)

pub returns-clause-ordered : goal.returns-clause-ordered
returns-clause-ordered c =
    let at = c.get.ensures.lookup in
    all_looked IsOrdered c.deref.result.now c.args.n c.get.result at.0 at.1
    (subst (AllByRecursion IsOrdered) (sym c.deref.ensures.value) c.self.invariant.2)
