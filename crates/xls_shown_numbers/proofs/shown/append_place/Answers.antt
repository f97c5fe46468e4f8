use Rattle.std.proofs.Common.{◌++◌, ap, sym, ◌∙◌}
use Rattle.std.specs.Str.{chars}
use Rattle.std.specs.String.{string_bytes}
use Rattle.std.proofs.lemmas.Result.{on_ok_weaker}
use Rattle.xls_shown_numbers.specs.Numbers.{value}
use Rattle.xls_shown_numbers.proofs.ShownLemmas.{none_written}
use Rattle.xls_shown_numbers.proofs.shown.append_place.Goals as goal

pub returns-clause-ok : goal.returns-clause-ok
returns-clause-ok c =
    on_ok_weaker c.push_whole_place.result (λ e. e ∙ ap (λ xs. chars (string_bytes c.args.text.now) ++ xs)
    (none_written c.args.is_written (value c.args.n) c.args.leftmost c.args.place c.args.i (sym c.is_zero_written.ensures ∙ c.if-is_zero_written.false))) c.push_whole_place.ensures.ok
