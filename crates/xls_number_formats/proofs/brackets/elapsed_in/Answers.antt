use Rattle.std.proofs.Common.{sym, ◌∙◌}
use Rattle.xls_number_formats.proofs.BracketLemmas.{run_alone, run_mixed}
use Rattle.xls_number_formats.proofs.brackets.elapsed_in.Goals as goal

pub returns-then-is_run : goal.returns-then-is_run
returns-then-is_run c =
    c.clock_letter_of.ensures
    ∙ sym (run_alone _ _ _ _ c.in_ok-first.ensures.exact c.to_ascii_lowercase-letter.ensures.value (sym c.is_run.ensures ∙ c.if-is_run.true))

pub returns-else-is_run : goal.returns-else-is_run
returns-else-is_run c =
    sym (run_mixed _ _ _ _ c.in_ok-first.ensures.exact c.to_ascii_lowercase-letter.ensures.value (sym c.is_run.ensures ∙ c.if-is_run.false))
