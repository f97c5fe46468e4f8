use Rattle.std.proofs.Common.{sym, ap, ◌∙◌}
use Rattle.std.specs.Str.{chars}
use Rattle.std.proofs.lemmas.Str.{chars-nil}
use Rattle.xls_view.proofs.ValueLemmas.{no_characters}
use Rattle.xls_view.proofs.value.EncodedText.to_text.Goals as goal

-- the string has a fault
pub returns-in-Err-2 : goal.returns-in-Err-2
returns-in-Err-2 c =
    ap chars c.new.ensures.bytes ∙ chars-nil
    ∙ sym (no_characters _ c.in-Err.error (λ m. let t = c.is_memory.ensures.1 m in let f = c.if-is_memory.false in cc) c.in-Err.ensures)
