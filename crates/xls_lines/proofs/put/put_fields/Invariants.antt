use Rattle.std.proofs.Common.{take}
use Rattle.std.specs.List.{flat_map}
use Rattle.xls_output.specs.Output.{Buffers, output}
use Rattle.xls_lines.specs.Lines.{tabbed_field}
use Rattle.xls_lines.proofs.put.put_fields.Given as goal

-- the fields so far are put
abbrev pub invariant-loop-field : goal.invariant-loop-field
invariant-loop-field g l =
    Buffers (output g.K.Sink.state l.fn.out) (output g.K.Sink.state l.out)
    (flat_map tabbed_field (take l.field-index l.fields))
