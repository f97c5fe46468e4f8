use Rattle.xls_vba.proofs.OneReadingLemmas.{one_project, one_first_fault, project_or_fault}
use Rattle.xls_vba.proofs.laws.one_reading.Goals as goal

pub returns-clause-project : goal.returns-clause-project
returns-clause-project c = one_project

pub returns-clause-fault : goal.returns-clause-fault
returns-clause-fault c = one_first_fault

pub returns-clause-either : goal.returns-clause-either
returns-clause-either c = project_or_fault
