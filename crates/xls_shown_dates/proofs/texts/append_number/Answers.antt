use Rattle.std.specs.String.{string_bytes}
use Rattle.std.proofs.Common.{arith, rules}
use Rattle.std.proofs.lemmas.Str.{IsUtf8-string_bytes}
use Rattle.xls_shown_dates.proofs.TextLemmas.{number_ok, pushed_grown}
use Rattle.xls_shown_dates.proofs.texts.append_number.Goals as goal

pub returns-clause-ok : goal.returns-clause-ok
returns-clause-ok c =
    number_ok c.push_str.result (string_bytes c.args.text.now) (string_bytes c.append_zeros.new.text) c.format-digits.result.now (string_bytes c.push_str.new.self) c.args.width c.args.n
    (IsUtf8-string_bytes c.args.text.now) (omega arith) (search rules) c.format-digits.ensures.text c.push_str.ensures.bytes

pub returns-clause-grown : goal.returns-clause-grown
returns-clause-grown c = pushed_grown c.push_str.result _ _ c.format-digits.result.now _ c.append_zeros.ensures.grown c.format-digits.utf8 c.push_str.ensures.bytes
