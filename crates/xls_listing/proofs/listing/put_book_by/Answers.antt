use Rattle.std.proofs.Common.{[], ◌∷◌, ◌++◌, ap, map}
use Rattle.xls_open.specs.Workbook.{name_texts}
use Rattle.xls_output.specs.Output.{output_of}
use Rattle.xls_listing.specs.Listing.{dates_line, each_sheet, lines_of_sheet, listed_sheets, name_line}
use Rattle.xls_listing.proofs.DisplayedLemmas.{map_again}
use Rattle.xls_output.proofs.EachLemmas.{each-as, each-stops-as, each-stops-more, each-stops-then, each-then, puts-each-stop, puts-then}
use Rattle.xls_listing.proofs.listing.put_book_by.Goals as goal

pub returns-in_err-put_line : goal.returns-in_err-put_line
returns-in_err-put_line g c =
    let view = c.args.view.now in
    let sheets = each_sheet lines_of_sheet view.book.sheets (listed_sheets c.args.reader.now view.book.contents view.formatted) in
    puts-each-stop c.from_residual.result c.from_residual.ensures.1
    (each-stops-more (map name_line view.book.names ++ sheets)
    (each-stops-as c.in_err-put_line.ensures (ap (λ b. dates_line b ∷ []) c.has_1904_epoch-is_1904.ensures)))

pub returns-in_err-put_names : goal.returns-in_err-put_names
returns-in_err-put_names g c =
    let a = c.from_residual-in_err-put_names in
    let view = c.args.view.now in
    let sheets = each_sheet lines_of_sheet view.book.sheets (listed_sheets c.args.reader.now view.book.contents view.formatted) in
    let dates = each-as c.in_ok-put_line.ensures (ap (λ b. dates_line b ∷ []) c.has_1904_epoch-is_1904.ensures) in
    let names = each-stops-as c.in_err-put_names.ensures (map_again name_line name_texts _ view.book.names c.defined_names.ensures) in
    puts-each-stop a.result a.ensures.1 (each-stops-then dates (each-stops-more sheets names))

pub returns : goal.returns
returns g c =
    let view = c.args.view.now in
    let sheets = each_sheet lines_of_sheet view.book.sheets (listed_sheets c.args.reader.now view.book.contents view.formatted) in
    let is = g.F.LineForm.is_text c.args.form.now in
    let dates = each-as c.in_ok-put_line.ensures (ap (λ b. dates_line b ∷ []) c.has_1904_epoch-is_1904.ensures) in
    let names = each-as c.in_ok-put_names.ensures (map_again name_line name_texts _ view.book.names c.defined_names.ensures) in
    puts-then is ((dates_line view.book.is_1904 ∷ []) ++ map name_line view.book.names) sheets
    (output_of g.K.Sink.state g.F.Buffer.Gathers.kept c.put_all_sheets.new.out) c.put_all_sheets.result (each-then dates names) c.put_all_sheets.ensures
