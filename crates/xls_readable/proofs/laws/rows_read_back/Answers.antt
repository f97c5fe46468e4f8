use Rattle.xls_readable.proofs.RoundTripLemmas.{apart, row_reads, rows_read}
use Rattle.xls_readable.proofs.laws.rows_read_back.Goals as goal

pub returns-clause-row : goal.returns-clause-row
returns-clause-row c = λ delimiter field fields rest is. row_reads delimiter (apart delimiter is) field fields rest

pub returns-clause-rows : goal.returns-clause-rows
returns-clause-rows c = λ delimiter rows is. rows_read delimiter (apart delimiter is) rows
