use Rattle.xls_readable.proofs.GrowthLemmas.{grows_same, grows_text, grows_then, grows_exact}
use Rattle.xls_readable.proofs.exact_lines.push_exact_tabbed.Goals as goal

pub returns-in_err-push-clause-grown : goal.returns-in_err-push-clause-grown
returns-in_err-push-clause-grown c = grows_same _ _ c.in_err-push.ensures.bytes

pub returns-clause-grown : goal.returns-clause-grown
returns-clause-grown c = grows_then _ _ _ (grows_text _ _ _ c.in_ok-push.ensures.bytes) (grows_exact c.push_exact_item.result _ _ _ c.push_exact_item.ensures.ok c.push_exact_item.ensures.err)
