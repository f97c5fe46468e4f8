use Rattle.std.proofs.Common.{◌≡◌, ◌<◌, arith, sym, ◌∙◌}
use Rattle.json.specs.Print.{escape_letter}
use Rattle.xls_readable.proofs.JsonLemmas.{escape_byte-letter, escape_byte-control}
use Rattle.xls_readable.proofs.json_lines.push_escape.Goals as goal

pub returns-then-letter-ne0-clause-ok : goal.returns-then-letter-ne0-clause-ok
returns-then-letter-ne0-clause-ok c =
    let letter = c.escape_letter-letter.ensures.letter in
    let some : 0 < escape_letter c.args.byte = omega (arith, letter, c.if-letter-ne0.true) in
    rw (escape_byte-letter c.args.byte some, ← letter) c.push_letter.ensures.ok

pub returns-clause-ok : goal.returns-clause-ok
returns-clause-ok c =
    let letter = c.escape_letter-letter.ensures.letter in
    let none : escape_letter c.args.byte ≡ 0 = sym letter ∙ c.if-letter-ne0.false in
    rw (escape_byte-control c.args.byte none c.requires) c.push_control.ensures.ok
