use Rattle.xls_readable.proofs.GrowthLemmas.{grows_exact, grows_then}
use Rattle.xls_readable.proofs.rows.append_row.Goals as goal

pub returns-clause-grown : goal.returns-clause-grown
returns-clause-grown c = grows_then _ _ _ c.push_fields.ensures.grown (grows_exact c.end_row.result _ _ _ c.end_row.ensures.ok c.end_row.ensures.err)
