use Rattle.xls_bytes.proofs.ColumnLemmas.{has_one_name, names_differ, names_in_order, seven_letters_do}
use Rattle.xls_bytes.proofs.laws.column_names.Goals as goal

pub returns-clause-one : goal.returns-clause-one
returns-clause-one c = has_one_name

pub returns-clause-different : goal.returns-clause-different
returns-clause-different c = names_differ

pub returns-clause-in_order : goal.returns-clause-in_order
returns-clause-in_order c = names_in_order

pub returns-clause-seven : goal.returns-clause-seven
returns-clause-seven c = seven_letters_do
