use Rattle.std.proofs.Common.{List, ℕ, ◌++◌, ◌∙◌, ap}
use Rattle.xls_data.specs.Errors.{error_text}
use Rattle.xls_strings.specs.Texts.{text_of}
use Rattle.xls_formula.proofs.TextLemmas.{text_more, chars-error_text}
use Rattle.xls_formula.proofs.words.push_cell_error.Goals as goal

pub returns : goal.returns
returns c =
    text_more c.args.out.now c.write.new.self (error_text c.args.error) c.in_ok-write.ensures.bytes
    ∙ ap (λ (x : List ℕ). text_of c.args.out.now ++ x) (chars-error_text c.args.error)
