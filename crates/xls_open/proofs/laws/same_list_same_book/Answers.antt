use Rattle.xls_open.proofs.SameLemmas.{same_list_same_book}
use Rattle.xls_open.proofs.laws.same_list_same_book.Goals as goal

pub returns : goal.returns
returns c = same_list_same_book
