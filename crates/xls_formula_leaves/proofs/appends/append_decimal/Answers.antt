use Rattle.std.proofs.Common.{ap, ◌∙◌, ◌++◌}
use Rattle.std.proofs.lemmas.Result.{on_ok_weaker}
use Rattle.std.proofs.lemmas.Str.{chars-IsAscii}
use Rattle.xls_strings.specs.Texts.{text_of}
use Rattle.xls_formula_leaves.proofs.appends.append_decimal.Goals as goal

pub returns-clause-ok : goal.returns-clause-ok
returns-clause-ok c =
    on_ok_weaker c.append_text.result
    (λ e. e ∙ ap (λ xs. text_of c.args.out.now ++ xs) (chars-IsAscii _ c.format.ensures.ascii ∙ c.format.ensures.text))
    c.append_text.ensures.ok
