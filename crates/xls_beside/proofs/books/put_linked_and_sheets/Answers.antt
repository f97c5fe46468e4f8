use Rattle.std.proofs.Common.{ap}
use Rattle.std.specs.List.{flat_map}
use Rattle.xls_output.proofs.EachLemmas.{each-as, each-stops-as, each-stops-more, puts-each-stop, puts-then}
use Rattle.xls_beside.specs.Books.{book_lines}
use Rattle.xls_beside.specs.Lines.{IsLineText}
use Rattle.xls_beside.proofs.books.put_linked_and_sheets.Goals as goal

pub returns-in_err-put_books : goal.returns-in_err-put_books
returns-in_err-put_books g c =
    puts-each-stop c.from_residual.result c.from_residual.ensures.1
    (each-stops-more _ (each-stops-as c.in_err-put_books.ensures (ap (flat_map book_lines) c.books.ensures)))

pub returns : goal.returns
returns g c =
    puts-then (IsLineText c.args.form) _ _ _ c.put_listed.result
    (each-as c.in_ok-put_books.ensures (ap (flat_map book_lines) c.books.ensures)) c.put_listed.ensures
