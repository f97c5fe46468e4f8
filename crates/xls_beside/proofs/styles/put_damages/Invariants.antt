use Rattle.std.proofs.Common.{◌∷◌, [], take}
use Rattle.std.specs.List.{flat_map}
use Rattle.xls_styles.specs.declared.damage.Damage.{Damage}
use Rattle.xls_output.specs.Each.{GathersEach, text_output}
use Rattle.xls_beside.specs.Lines.{IsLineText}
use Rattle.xls_beside.specs.Styles.{damaged_style}
use Rattle.xls_beside.proofs.styles.put_damages.Given as goal

-- the lines of all so far are put
abbrev pub invariant-loop-damage : goal.invariant-loop-damage
invariant-loop-damage g l =
    GathersEach (IsLineText l.form) (flat_map (λ (d : Damage). damaged_style d ∷ []) (take l.damage-index l.damages))
    (text_output g.K.Sink.state l.fn.out) (text_output g.K.Sink.state l.out)
