use Rattle.xls_readable.proofs.GrowthLemmas.{grows_same, grows_text, grows_then}
use Rattle.xls_readable.proofs.exact_lines.append_exact_line.Goals as goal

pub returns-in_err-push_str-clause-grown : goal.returns-in_err-push_str-clause-grown
returns-in_err-push_str-clause-grown c = grows_same _ _ c.in_err-push_str.ensures.bytes

pub returns-in_err-push_all_exact-clause-grown : goal.returns-in_err-push_all_exact-clause-grown
returns-in_err-push_all_exact-clause-grown c = grows_then _ _ _ (grows_text _ _ _ c.in_ok-push_str.ensures.bytes) (c.push_all_exact.ensures.grown)

pub returns-in_err-push-clause-grown : goal.returns-in_err-push-clause-grown
returns-in_err-push-clause-grown c = grows_then _ _ _ (grows_then _ _ _ (grows_text _ _ _ c.in_ok-push_str.ensures.bytes) (c.push_all_exact.ensures.grown)) (grows_same _ _ c.in_err-push.ensures.bytes)

pub returns-clause-grown : goal.returns-clause-grown
returns-clause-grown c = grows_then _ _ _ (grows_then _ _ _ (grows_text _ _ _ c.in_ok-push_str.ensures.bytes) (c.push_all_exact.ensures.grown)) (grows_text _ _ _ c.in_ok-push.ensures.bytes)
