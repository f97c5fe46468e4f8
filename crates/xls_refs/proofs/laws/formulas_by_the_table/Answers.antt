use Rattle.xls_view.proofs.TableLemmas.{formulas_by_the_table}
use Rattle.xls_refs.proofs.laws.formulas_by_the_table.Goals as goal

pub returns : goal.returns
returns c = formulas_by_the_table
