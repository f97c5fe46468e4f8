use Rattle.std.proofs.Common.{IsUtf8, rules}
use Rattle.std.proofs.lemmas.Str.{encodes-chars}
use Rattle.xls_csv.proofs.FieldLemmas.{printed_ref}
use Rattle.xls_csv.proofs.fields.displayed_day.Goals as goal

-- a borrowed text is UTF-8
pub returns-in-SharedString : goal.returns-in-SharedString
returns-in-SharedString c =
    let text = c.in-SharedString.text.now in
    let utf8 : IsUtf8 text = search rules in
    rw c.in-SharedString.is (encodes-chars text utf8)

pub returns-in_default : goal.returns-in_default
returns-in_default c = printed_ref c.args.value.now c.in_default.not-DateTime c.in_default.not-SharedString
