use Rattle.std.proofs.Common.{take}
use Rattle.std.specs.List.{flat_map}
use Rattle.xls_output.specs.Each.{GathersEach, text_output}
use Rattle.xls_documents.specs.Lines.{IsLineText}
use Rattle.xls_documents.specs.Projects.{named_lines}
use Rattle.xls_documents.proofs.project.put_modules.Given as goal

-- the lines of the names so far are put
abbrev pub invariant-loop-name : goal.invariant-loop-name
invariant-loop-name g l =
    GathersEach (IsLineText l.form) (flat_map (λ name. named_lines l.project.modules name.now) (take l.name-index l.names))
    (text_output g.K.Sink.state l.fn.out) (text_output g.K.Sink.state l.out)
