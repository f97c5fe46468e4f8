use Rattle.std.proofs.Common.{ap, ◌∙◌, ◌++◌}
use Rattle.std.specs.Str.{chars}
use Rattle.std.proofs.lemmas.Str.{chars-nil}
use Rattle.xls_text.specs.Pages.{string_text}
use Rattle.xls_formula.proofs.TextLemmas.{encoded_more}
use Rattle.xls_formula_leaves.proofs.strings.decoded.Goals as goal

pub returns : goal.returns
returns c =
    let text = string_text c.args.page c.args.high_byte c.args.units.now c.args.count in
    encoded_more c.new-text.result c.decode_to.new.s text c.in_ok-decode_to.ensures.text ∙ ap (λ xs. xs
    ++ text) (ap chars c.new-text.ensures.bytes ∙ chars-nil)
