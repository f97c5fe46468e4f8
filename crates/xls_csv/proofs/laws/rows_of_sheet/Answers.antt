use Rattle.xls_data.specs.Content.{nothing}
use Rattle.xls_csv.proofs.WalkLemmas.{walks_dense, joins_to_csv}
use Rattle.xls_csv.proofs.laws.rows_of_sheet.Goals as goal

pub returns-clause-rows : goal.returns-clause-rows
returns-clause-rows c = walks_dense nothing

pub returns-clause-csv : goal.returns-clause-csv
returns-clause-csv c = joins_to_csv
