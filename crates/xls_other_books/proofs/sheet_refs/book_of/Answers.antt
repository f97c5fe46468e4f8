use Rattle.std.proofs.Common.{ap, ◌∙◌}
use Rattle.std.specs.Str.{chars}
use Rattle.std.proofs.lemmas.Result.{IfOk-weaker}
use Rattle.std.proofs.lemmas.Str.{chars-nil}
use Rattle.xls_other_books.specs.SheetRefs.{book_by, book_in}
use Rattle.xls_other_books.proofs.sheet_refs.book_of.Goals as goal

pub returns-in-None : goal.returns-in-None
returns-in-None c =
    let path = chars c.args.path.now in
    IfOk-weaker c.book_in-in-None.result _ _ (λ book e. e ∙ (ap (λ xs. book_in path xs xs) chars-nil ∙ ap (book_by path) c.in-None.ensures)) c.book_in-in-None.ensures
