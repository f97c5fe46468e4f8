use Rattle.std.proofs.Common.{◌≡◌, ◌∷◌, ◌+◌, ◌/◌, ◌%◌, true, false, ap, ◌∙◌, arith}
use Rattle.std.specs.Prelude.{◌==◌}
use Rattle.xls_lines.proofs.ShortLemmas.{one_decimal, two_decimals}
use Rattle.xls_lines.proofs.short.Short.put_decimals.Goals.{then-rest-ne0, else-rest-ne0}
use Rattle.xls_lines.proofs.short.Short.put_decimals.Goals as goal

pub returns-clause-puts : goal.returns-clause-puts
returns-clause-puts c =
    let n = c.args.rest in
    let text = c.args.self.now in
    let few = c.requires.hundredths in
    let some : (n == 0) ≡ false = grind (arith, c.if-rest-eq0.false) in
    let first = c.put_byte-3.ensures ∙ ap (λ t. 46 ∷ t) c.put_byte-2.ensures in
    elim c.if-rest-ne0.branch [
      | then-rest-ne0 w ↦
          let more : (n % 10 == 0) ≡ false = grind (arith, w.if-rest-ne0.true) in
          first ∙ ap (λ t. 46 ∷ (48 + n / 10) ∷ t) (w.self-is ∙ w.put_byte.ensures) ∙ two_decimals n text few some more
      | else-rest-ne0 w ↦
          let none : (n % 10 == 0) ≡ true = grind (arith, w.if-rest-ne0.false) in
          first ∙ ap (λ t. 46 ∷ (48 + n / 10) ∷ t) w.self-is ∙ one_decimal n text few some none
    ]
