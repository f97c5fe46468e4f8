use Rattle.std.proofs.Common.{ap, sym}
use Rattle.std.specs.Str.{chars}
use Rattle.std.specs.String.{string_bytes}
use Rattle.std.proofs.lemmas.Str.{IsUtf8-string_bytes}
use Rattle.xls_formula_names.specs.Paths.{spelled}
use Rattle.xls_formula_names.proofs.AppendLemmas.{appended}
use Rattle.xls_formula_names.proofs.paths.append_spelled.Goals as goal

pub returns-then-is_literal : goal.returns-then-is_literal
returns-then-is_literal c =
    appended c.push_str.result (string_bytes c.args.out.now) c.args.text.now _ _ (IsUtf8-string_bytes c.args.out.now) c.push_str.ensures.bytes (ap (λ b. spelled b (chars c.args.text.now)) (sym c.if-is_literal.true))
