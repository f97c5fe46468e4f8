use Rattle.std.proofs.Common.{ℕ, List, ◌++◌, ap, ◌∙◌, encode_utf8_all}
use Rattle.xls_text.specs.Pages.{string_text}
use Rattle.xls_strings.proofs.TextLemmas.{text_spelled}
use Rattle.xls_styles.proofs.fonts.text_at.Goals as goal

pub returns : goal.returns
returns c =
    let cs = string_text c.args.page.now c.args.high_byte c.args.bytes.now c.args.count in
    text_spelled c.decode_to.new.s cs (c.in_ok-decode_to.ensures.text ∙ ap (λ (bs : List ℕ). bs ++ encode_utf8_all cs) c.new-text.ensures.bytes)
