use Rattle.std.proofs.Common.{ℕ, List, ◌++◌, ap, ◌∙◌, encode_utf8_all}
use Rattle.std.specs.Str.{chars}
use Rattle.xls_strings.proofs.TextLemmas.{text_spelled}
use Rattle.xls_view.specs.Values.{encoded_text}
use Rattle.xls_view.proofs.text.TextBuffer.decode.Goals as goal

pub returns : goal.returns
returns c =
    let cs = encoded_text c.args.encoded in
    ap chars c.as_str.ensures.value
    ∙ text_spelled c.append.new.text cs (c.in_ok-append.ensures ∙ ap (λ (bs : List ℕ). bs ++ encode_utf8_all cs) c.clear.ensures.bytes)
