use Rattle.xls_listing.specs.Listing.{IsDisplayedLine, line_of}
use Rattle.xls_output.proofs.EachLemmas.{puts-memory, puts-one}
use Rattle.xls_listing.proofs.forms.FormLineForm.put_line.Goals as goal

pub returns-in_err-push_book_line : goal.returns-in_err-push_book_line
returns-in_err-push_book_line g c = puts-memory (IsDisplayedLine c.args.self.now) _ _ _ _ _ c.from_residual.result c.from_residual.ensures.1

pub returns : goal.returns
returns g c = puts-one (IsDisplayedLine c.args.self.now) (line_of c.args.line) _ _ _ _ _ c.pass.result c.in_ok-push_book_line.ensures.ok c.pass.ensures.puts
