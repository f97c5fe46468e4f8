use Rattle.std.proofs.Common.{◌∙◌, sym, ap}
use Rattle.std.specs.List.{flat_map}
use Rattle.xls_lines.specs.Lines.{escaped_char}
use Rattle.xls_bytes.proofs.EscapeLemmas.{escaped_text-chars}
use Rattle.xls_lines.proofs.field.is_plain_text.Goals as goal

pub returns : goal.returns
returns c = λ yes.
    let bytes = c.as_bytes.ensures.value in
    escaped_text-chars c.args.text.now c.utf8.text ∙ (sym (ap (flat_map escaped_char) bytes) ∙ (c.is_all_plain.ensures yes ∙ bytes))
