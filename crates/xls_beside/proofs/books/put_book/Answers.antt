use Rattle.std.proofs.Common.{List, ap, map}
use Rattle.std.specs.Prelude.{String}
use Rattle.std.specs.Global.{Global}
use Rattle.xls_other_books.specs.Names.{NameFields, name_view}
use Rattle.xls_output.proofs.EachLemmas.{each-as, each-stops-as, each-stops-more, each-stops-then, puts-each-stop, puts-then}
use Rattle.xls_strings.specs.Texts.{text_of}
use Rattle.xls_beside.specs.Books.{book_name, book_sheet}
use Rattle.xls_beside.specs.Lines.{IsLineText}
use Rattle.xls_beside.proofs.books.put_book.Goals as goal

pub returns-in_err-put_linked : goal.returns-in_err-put_linked
returns-in_err-put_linked g c =
    puts-each-stop c.from_residual.result c.from_residual.ensures.1 (each-stops-more _ c.in_err-put_linked.ensures)

pub returns-in_err-put_book_sheets : goal.returns-in_err-put_book_sheets
returns-in_err-put_book_sheets g c =
    let r = c.from_residual-in_err-put_book_sheets in
    let sheets = ap (λ (l : List (String Global)). map book_sheet (map text_of l)) c.deref.ensures.value in
    puts-each-stop r.result r.ensures.1
    (each-stops-then c.in_ok-put_linked.ensures (each-stops-more _ (each-stops-as c.in_err-put_book_sheets.ensures sheets)))

pub returns-in_err-put_names : goal.returns-in_err-put_names
returns-in_err-put_names g c =
    let r = c.from_residual-in_err-put_names in
    let sheets = ap (λ (l : List (String Global)). map book_sheet (map text_of l)) c.deref.ensures.value in
    let names = ap (λ (l : List NameFields). map (book_name c.args.book.now.linked) (map name_view l)) c.deref-2.ensures.value in
    puts-each-stop r.result r.ensures.1
    (each-stops-then c.in_ok-put_linked.ensures (each-stops-then (each-as c.in_ok-put_book_sheets.ensures sheets)
    (each-stops-more _ (each-stops-as c.in_err-put_names.ensures names))))

pub returns : goal.returns
returns g c =
    let r = c.put_damage_if.result in
    let P = IsLineText c.args.form in
    let sheets = ap (λ (l : List (String Global)). map book_sheet (map text_of l)) c.deref.ensures.value in
    let names = ap (λ (l : List NameFields). map (book_name c.args.book.now.linked) (map name_view l)) c.deref-2.ensures.value in
    puts-then P _ _ _ r c.in_ok-put_linked.ensures
    (puts-then P _ _ _ r (each-as c.in_ok-put_book_sheets.ensures sheets)
    (puts-then P _ _ _ r (each-as c.in_ok-put_names.ensures names) c.put_damage_if.ensures))
