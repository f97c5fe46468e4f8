use Rattle.std.proofs.Common.{ap, sym, ◌∙◌}
use Rattle.std.specs.String.{string_bytes}
use Rattle.xls_data.specs.declared.sheets.Sheet.{Sheet}
use Rattle.xls_answers.proofs.HiddenPartLemmas.{last_is}
use Rattle.xls_answers.proofs.hidden_parts.last_of.Goals as goal

pub returns : goal.returns
returns c =
    last_is c.args.view.now c.sheets-sheets.result.now c.args.index c.index-sheets-index.result c.as_str.result.now c.last_named.result
    c.requires c.sheets-sheets.ensures c.index-sheets-index.is (c.as_str.ensures.value ∙ ap (λ (s : Sheet). string_bytes s.name) (sym c.index-sheets-index.is)) c.last_named.ensures.exact
