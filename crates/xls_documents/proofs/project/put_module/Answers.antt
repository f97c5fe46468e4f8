use Rattle.std.proofs.Common.{codes, ◌∙◌}
use Rattle.xls_documents.specs.Lines.{IsLineText}
use Rattle.xls_output.proofs.EachLemmas.{puts-as}
use Rattle.xls_documents.proofs.LineLemmas.{counted, displayed, three_fields}
use Rattle.xls_documents.proofs.project.put_module.Goals as goal

pub returns : goal.returns
returns g c =
    let fields = three_fields (codes "module") c.text_member.result c.text_member-2.result c.count_member.result
    (c.text_member.ensures ∙ displayed (codes "name") c.as_str.ensures.value)
    (c.text_member-2.ensures ∙ displayed (codes "stream") c.as_str-2.ensures.value)
    (c.count_member.ensures ∙ counted (codes "offset") c.from.ensures) in
    puts-as (IsLineText c.args.form) _ _ c.put_line.result fields c.put_line.ensures
