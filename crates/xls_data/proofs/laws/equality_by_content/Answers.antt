use Rattle.xls_data.proofs.EqualityLemmas.{number_decides, data_decides, ref_decides, sheet_decides}
use Rattle.xls_data.proofs.laws.equality_by_content.Goals as goal

pub returns-clause-numbers : goal.returns-clause-numbers
returns-clause-numbers c = λ a b. number_decides a b

pub returns-clause-values : goal.returns-clause-values
returns-clause-values c = λ a b. data_decides a b

pub returns-clause-borrowed : goal.returns-clause-borrowed
returns-clause-borrowed c = λ a b u v. ref_decides a b u v

pub returns-clause-sheets : goal.returns-clause-sheets
returns-clause-sheets c = λ a b. sheet_decides a b
