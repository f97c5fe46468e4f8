use Rattle.std.proofs.Common.{ap}
use Rattle.xls_output.specs.Output.{output_of}
use Rattle.xls_output.proofs.EachLemmas.{puts-as, puts-memory}
use Rattle.xls_listing.specs.Listing.{lines_by}
use Rattle.xls_listing.proofs.listing.put_book.Goals as goal

pub returns-in_err-reader : goal.returns-in_err-reader
returns-in_err-reader g c = puts-memory (g.F.LineForm.is_text c.args.form.now) _ _ _ _ _ c.from_residual.result c.from_residual.ensures.1

pub returns : goal.returns
returns g c =
    let out = output_of g.K.Sink.state g.F.Buffer.Gathers.kept in
    puts-as (g.F.LineForm.is_text c.args.form.now) (out c.args.out.now) (out c.put_book_by.new.out) c.put_book_by.result
    (ap (λ r. lines_by r c.args.view.now) c.in_ok-reader.ensures) c.put_book_by.ensures
