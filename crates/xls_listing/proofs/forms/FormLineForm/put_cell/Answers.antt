use Rattle.xls_listing.specs.Listing.{IsDisplayedLine}
use Rattle.xls_output.proofs.EachLemmas.{puts-memory, puts-one}
use Rattle.xls_listing.proofs.forms.FormLineForm.put_cell.Goals as goal

pub returns-in_err-push_listed_cell : goal.returns-in_err-push_listed_cell
returns-in_err-push_listed_cell g c = λ s is. puts-memory (IsDisplayedLine c.args.self.now) _ _ _ _ _ c.from_residual.result c.from_residual.ensures.1

pub returns : goal.returns
returns g c = λ s is. puts-one (IsDisplayedLine c.args.self.now) _ _ _ _ _ _ c.pass.result (c.in_ok-push_listed_cell.ensures.ok s is) c.pass.ensures.puts
