use Rattle.std.proofs.Common.{ℕ, List, ◌++◌, ap, ◌∙◌, refl, encode_utf8_all, slice_index}
use Rattle.xls_text.specs.Pages.{string_text}
use Rattle.xls_strings.proofs.TextLemmas.{text_spelled}
use Rattle.xls_defined_names.proofs.fields.stored_name.Goals as goal

pub returns : goal.returns
returns c =
    let units = c.name_units-units.result in
    let cs = string_text c.args.encoding.now units.high_byte c.behind.result.now (slice_index c.args.body.now 3) in
    text_spelled c.decode_to.new.s cs (c.in_ok-decode_to.ensures.text ∙ ap
    (λ (bs : List ℕ). bs ++ encode_utf8_all cs) c.new-text.ensures.bytes)
    ∙ rw (c.behind.ensures, c.name_units-units.ensures) refl
