use Rattle.std.proofs.Common.{◌++◌, ap, ◌∙◌}
use Rattle.std.specs.Str.{chars}
use Rattle.std.specs.String.{string_bytes}
use Rattle.std.proofs.lemmas.Result.{on_ok_weaker}
use Rattle.xls_shown_numbers.specs.Numbers.{value}
use Rattle.xls_shown_numbers.specs.Plain.{none_seen, text_from}
use Rattle.xls_shown_numbers.proofs.ShownLemmas.{plain_is}
use Rattle.xls_shown_numbers.proofs.shown.append_number.Goals as goal

pub returns-clause-ok : goal.returns-clause-ok
returns-clause-ok c =
    on_ok_weaker c.append_items.result (λ e. e ∙ ap (λ xs. chars (string_bytes c.args.text.now) ++ xs)
    (ap (λ ts. text_from c.args.plain.now (value c.number_shown.result) none_seen ts) c.new-items.ensures.items ∙ plain_is c.args.plain.now c.args.section.now c.args.decimal _ c.requires c.number_shown.ensures.value)) c.append_items.ensures.ok
