use Rattle.std.proofs.Common.{sym, subst}
use Rattle.xls_open.specs.Workbook.{rules_of}
use Rattle.xls_refs.specs.Citing.{IsBookCited}
use Rattle.xls_refs.proofs.ViewLemmas.{viewed_is_cited}
use Rattle.xls_refs.proofs.book.cites_of_book.Goals as goal

pub returns-clause-ok : goal.returns-clause-ok
returns-clause-ok c =
    let rules = rules_of c.args.options.now in
    let bytes = c.args.bytes.now in
    subst (IsBookCited rules bytes) (sym c.in_ok-cites.ensures) (viewed_is_cited rules bytes c.in_ok-view.view c.in_ok-view.ensures.ok)
