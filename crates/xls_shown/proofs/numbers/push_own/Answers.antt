use Rattle.std.proofs.Common.{refl}
use Rattle.std.specs.String.{string_bytes}
use Rattle.std.proofs.lemmas.Str.{IsUtf8-string_bytes}
use Rattle.xls_shown_numbers.proofs.ShownLemmas.{pushed_ok}
use Rattle.xls_shown.proofs.numbers.push_own.Goals as goal

pub returns-clause-ok : goal.returns-clause-ok
returns-clause-ok c =
    pushed_ok c.push_str.result (string_bytes c.args.text.now) c.args.own.now (string_bytes c.push_str.new.self) _ (IsUtf8-string_bytes c.args.text.now) c.push_str.ensures.bytes refl
