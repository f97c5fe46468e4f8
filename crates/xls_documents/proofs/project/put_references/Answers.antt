use Rattle.std.proofs.Common.{◌∷◌, [], ◌∙◌}
use Rattle.xls_vba.specs.References.{reference_view}
use Rattle.xls_documents.specs.Lines.{IsLineText}
use Rattle.xls_documents.specs.Projects.{reference_line}
use Rattle.xls_documents.proofs.LineLemmas.{single_lines, whole_lines}
use Rattle.xls_output.proofs.EachLemmas.{each-as, each-item, each-item-stopped, each-none, each-stops-as, puts-each-stop}
use Rattle.xls_documents.proofs.project.put_references.Goals as goal

pub loop-reference-init : goal.loop-reference-init
loop-reference-init g c = each-none (IsLineText c.args.form) _

pub returns-in_err-put_reference : goal.returns-in_err-put_reference
returns-in_err-put_reference g c =
    puts-each-stop c.from_residual.result c.from_residual.ensures.1
    (each-stops-as (each-item-stopped (λ r. reference_line (reference_view r) ∷ []) c.args.references.now
    c.loop-reference.reference-index _ c.loop-reference-test.true c.loop-reference.invariant (rw c.reference-item.is at c.in_err-put_reference.ensures))
    (single_lines reference_line reference_view c.args.references.now))

pub loop-reference-preserved : goal.loop-reference-preserved
loop-reference-preserved g c =
    each-item (λ r. reference_line (reference_view r) ∷ []) c.args.references.now
    c.loop-reference.reference-index _ c.loop-reference-test.true c.loop-reference.invariant (rw c.reference-item.is at c.in_ok-put_reference.ensures)

pub returns : goal.returns
returns g c =
    each-as c.loop-reference.invariant (whole_lines (λ r. reference_line (reference_view r) ∷ []) c.args.references.now _ c.loop-reference-test.false
    ∙ single_lines reference_line reference_view c.args.references.now)
