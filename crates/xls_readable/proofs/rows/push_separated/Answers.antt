use Rattle.xls_readable.proofs.GrowthLemmas.{grows_same, grows_text, grows_then, grows_either}
use Rattle.xls_readable.proofs.rows.push_separated.Goals as goal

pub returns-in_err-push_separator-clause-grown : goal.returns-in_err-push_separator-clause-grown
returns-in_err-push_separator-clause-grown c = grows_same _ _ c.in_err-push_separator.ensures.err

pub returns-clause-grown : goal.returns-clause-grown
returns-clause-grown c = grows_then _ _ _ (grows_text _ _ _ c.in_ok-push_separator.ensures.ok) (grows_either c.push_field.result _ _ _ c.push_field.ensures.ok c.push_field.ensures.err)
