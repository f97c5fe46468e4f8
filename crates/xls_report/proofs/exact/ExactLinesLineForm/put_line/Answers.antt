use Rattle.xls_output.specs.Output.{output}
use Rattle.xls_listing.specs.Listing.{line_of}
use Rattle.xls_report.proofs.ExactLemmas.{puts-exact}
use Rattle.xls_report.proofs.exact.ExactLinesLineForm.put_line.Goals as goal

pub returns : goal.returns
returns g c =
    let out = output g.K.Sink.state in
    puts-exact (line_of c.args.line) (out c.args.out.now) (out c.put_book_line.new.out) c.put_book_line.result c.put_book_line.ensures
