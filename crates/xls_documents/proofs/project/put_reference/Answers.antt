use Rattle.std.proofs.Common.{codes, ◌∙◌}
use Rattle.xls_documents.specs.Lines.{IsLineText}
use Rattle.xls_output.proofs.EachLemmas.{puts-as}
use Rattle.xls_documents.proofs.LineLemmas.{displayed, three_fields}
use Rattle.xls_documents.proofs.project.put_reference.Goals as goal

pub returns : goal.returns
returns g c =
    let fields = three_fields (codes "reference") c.text_member.result c.text_member-2.result c.text_member-3.result
    (c.text_member.ensures ∙ displayed (codes "name") c.as_str.ensures.value)
    (c.text_member-2.ensures ∙ displayed (codes "description") c.as_str-2.ensures.value)
    (c.text_member-3.ensures ∙ displayed (codes "path") c.as_str-3.ensures.value) in
    puts-as (IsLineText c.args.form) _ _ c.put_line.result fields c.put_line.ensures
