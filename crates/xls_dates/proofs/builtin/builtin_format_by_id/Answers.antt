use Rattle.std.proofs.Common.{arith, ap, ◌∙◌}
use Rattle.xls_dates.specs.Builtin.{class_of_id}
use Rattle.xls_dates.proofs.BuiltinLemmas.{class_of_id-decimal, class_of_id-other}
use Rattle.xls_dates.proofs.builtin.builtin_format_by_id.Goals as goal

pub returns-clause-code : goal.returns-clause-code
returns-clause-code c = λ n small e.
    c.two_digits.ensures ∙ ap class_of_id (c.as_bytes.ensures.value ∙ e) ∙ class_of_id-decimal n (omega arith)

pub returns-clause-other : goal.returns-clause-other
returns-clause-other c = λ none.
    c.two_digits.ensures ∙ ap class_of_id c.as_bytes.ensures.value ∙ class_of_id-other c.args.id.now none
