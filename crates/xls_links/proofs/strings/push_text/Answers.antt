use Rattle.std.proofs.Common.{ap, ◌∙◌}
use Rattle.std.specs.Str.{chars}
use Rattle.std.specs.String.{string_bytes}
use Rattle.std.proofs.lemmas.Str.{chars-append, IsUtf8-string_bytes}
use Rattle.xls_links.proofs.strings.push_text.Goals as goal

pub returns : goal.returns
returns c =
    ap chars c.in_ok-push_str.ensures.bytes ∙ chars-append (string_bytes c.args.text.now) c.args.more.now (IsUtf8-string_bytes c.args.text.now)
