use Rattle.std.proofs.Common.{List, ℕ, ◌∷◌, [], ap, ◌∙◌, codes, Option}
use Rattle.xls_other_books.specs.Books.{book_view}
use Rattle.xls_output.proofs.EachLemmas.{puts-as}
use Rattle.xls_readable.specs.Items.{NamedItem}
use Rattle.xls_beside.specs.Books.{book_if}
use Rattle.xls_beside.specs.Lines.{IsLineText, line}
use Rattle.xls_beside.proofs.LineLemmas.{each_same, none_same}
use Rattle.xls_beside.proofs.books.put_linked.Goals as goal

pub returns : goal.returns
returns g c =
    let members = each_same c.word_member.ensures (each_same c.text_member.ensures (each_same c.text_member-2.ensures none_same)) in
    let by_kind = ap (λ (kind : Option (List ℕ)). book_if kind (book_view c.args.book.now)) c.in-Some.ensures in
    puts-as (IsLineText c.args.form) _ _ c.put_line.result
    (ap (λ (ms : List NamedItem). line (codes "book") ms ∷ []) members ∙ by_kind) c.put_line.ensures
