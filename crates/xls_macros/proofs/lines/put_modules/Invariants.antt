use Rattle.std.proofs.Common.{take, ◌∷◌, []}
use Rattle.std.specs.List.{flat_map}
use Rattle.xls_output.specs.Each.{GathersEach, text_output}
use Rattle.xls_macros.specs.Lines.{IsPartText, module_named}
use Rattle.xls_macros.proofs.lines.put_modules.Given as goal

-- the modules of the names so far are put
abbrev pub invariant-loop-name : goal.invariant-loop-name
invariant-loop-name g l =
    GathersEach (IsPartText l.form l.macros) (flat_map (λ name. module_named name.now ∷ []) (take l.name-index l.names))
    (text_output g.K.Sink.state l.fn.out) (text_output g.K.Sink.state l.out)
