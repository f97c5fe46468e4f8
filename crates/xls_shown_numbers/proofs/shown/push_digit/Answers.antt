use Rattle.std.proofs.Common.{ap, ◌∙◌}
use Rattle.std.specs.Str.{chars}
use Rattle.std.specs.Char.{encode_utf8}
use Rattle.std.specs.String.{string_bytes}
use Rattle.std.proofs.lemmas.Str.{IsUtf8-string_bytes}
use Rattle.xls_shown_numbers.proofs.ShownLemmas.{pushed_ok, chars_ascii}
use Rattle.xls_shown_numbers.proofs.shown.push_digit.Goals as goal

pub returns-clause-ok : goal.returns-clause-ok
returns-clause-ok c =
    pushed_ok c.push.result (string_bytes c.args.text.now) (encode_utf8 c.args.digit) (string_bytes c.push.new.self) _ (IsUtf8-string_bytes c.args.text.now) c.push.ensures.bytes
    (ap chars (c.push.ensures.ascii c.requires) ∙ chars_ascii c.args.digit c.requires)
