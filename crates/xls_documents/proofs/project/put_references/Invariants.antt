use Rattle.std.proofs.Common.{take, ◌∷◌, []}
use Rattle.std.specs.List.{flat_map}
use Rattle.xls_vba.specs.References.{reference_view}
use Rattle.xls_output.specs.Each.{GathersEach, text_output}
use Rattle.xls_documents.specs.Lines.{IsLineText}
use Rattle.xls_documents.specs.Projects.{reference_line}
use Rattle.xls_documents.proofs.project.put_references.Given as goal

-- the lines of the references so far are put
abbrev pub invariant-loop-reference : goal.invariant-loop-reference
invariant-loop-reference g l =
    GathersEach (IsLineText l.form) (flat_map (λ r. reference_line (reference_view r) ∷ []) (take l.reference-index l.references))
    (text_output g.K.Sink.state l.fn.out) (text_output g.K.Sink.state l.out)
