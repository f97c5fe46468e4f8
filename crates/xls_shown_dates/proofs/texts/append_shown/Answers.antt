use Rattle.std.proofs.Common.{ap, sym}
use Rattle.std.specs.String.{string_bytes}
use Rattle.std.proofs.lemmas.Str.{IsUtf8-string_bytes}
use Rattle.xls_shown_dates.specs.Shown.{shown_text}
use Rattle.xls_shown_dates.proofs.TextLemmas.{pushed_ok}
use Rattle.xls_shown_dates.proofs.texts.append_shown.Goals as goal

pub returns-in-Text-clause-ok : goal.returns-in-Text-clause-ok
returns-in-Text-clause-ok c = pushed_ok c.push_str.result (string_bytes c.args.text.now) c.in-Text.part.now (string_bytes c.push_str.new.self) _ (IsUtf8-string_bytes c.args.text.now) c.push_str.ensures.bytes (sym (ap shown_text c.in-Text.is))
