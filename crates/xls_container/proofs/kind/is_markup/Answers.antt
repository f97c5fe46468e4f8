use Rattle.std.proofs.Common.{List, ℕ, ◌∙◌, ap, codes}
use Rattle.std.proofs.lemmas.Str.Ascii.{trim_ascii_start_is}
use Rattle.xls_container.specs.Kinds.{begins_with, without_white_space}
use Rattle.xls_container.proofs.kind.is_markup.Goals as goal

pub returns : goal.returns
returns c =
    let trimmed = trim_ascii_start_is c.without_byte_order_mark.result.now c.trim_ascii_start-text.result.now c.trim_ascii_start-text.ensures.value in
    c.starts_with.ensures.value ∙ ap (begins_with (codes "<")) trimmed
    ∙ ap (λ (text : List ℕ). begins_with (codes "<") (without_white_space text)) c.without_byte_order_mark.ensures
