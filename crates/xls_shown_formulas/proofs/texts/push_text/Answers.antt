use Rattle.std.specs.String.{string_bytes}
use Rattle.std.proofs.lemmas.Str.{IsUtf8-string_bytes}
use Rattle.xls_shown_formulas.proofs.TextLemmas.{appended}
use Rattle.xls_shown_formulas.proofs.texts.push_text.Goals as goal

pub returns : goal.returns
returns c = appended c.push_str.result (string_bytes c.args.out.now) c.args.text.now _
    (IsUtf8-string_bytes c.args.out.now) c.push_str.ensures.bytes
