use Rattle.std.proofs.Common.{ℕ, List, ◌++◌, ap, ◌∙◌, encode_utf8_all, None, length}
use Rattle.xls_text.specs.Pages.{string_text}
use Rattle.xls_links.proofs.TextLemmas.{text_spelled}
use Rattle.xls_links.proofs.strings.decoded.Goals as goal

pub returns : goal.returns
returns c =
    let cs = string_text c.args.page None c.args.bytes.now (length c.args.bytes.now) in
    text_spelled c.decode_to.new.s cs (c.in_ok-decode_to.ensures.text ∙ ap (λ (bs : List ℕ). bs ++ encode_utf8_all cs) c.new-text.ensures.bytes)
