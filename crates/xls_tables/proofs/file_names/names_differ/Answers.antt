use Rattle.xls_tables.proofs.NumberLemmas.{names_differ}
use Rattle.xls_tables.proofs.file_names.names_differ.Goals as goal

pub returns : goal.returns
returns c = names_differ
