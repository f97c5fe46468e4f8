use Rattle.std.proofs.Common.{take}
use Rattle.std.specs.List.{flat_map}
use Rattle.xls_output.specs.Each.{GathersEach, text_output}
use Rattle.xls_documents.specs.Lines.{IsLineText}
use Rattle.xls_documents.specs.Properties.{displayed_field}
use Rattle.xls_documents.proofs.properties.put_fields.Given as goal

-- the lines of the fields so far are put
abbrev pub invariant-loop-field : goal.invariant-loop-field
invariant-loop-field g l =
    GathersEach (IsLineText l.form) (flat_map displayed_field (take l.field-index l.fields))
    (text_output g.K.Sink.state l.fn.out) (text_output g.K.Sink.state l.out)
