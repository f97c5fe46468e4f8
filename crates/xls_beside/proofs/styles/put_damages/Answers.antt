use Rattle.std.proofs.Common.{◌∷◌, [], ◌∙◌}
use Rattle.xls_styles.specs.declared.damage.Damage.{Damage}
use Rattle.xls_output.proofs.EachLemmas.{each-as, each-item, each-item-stopped, each-none, each-stops-as, puts-each-stop}
use Rattle.xls_beside.specs.Lines.{IsLineText}
use Rattle.xls_beside.specs.Styles.{damaged_style}
use Rattle.xls_beside.proofs.LineLemmas.{item_lines, whole_lines}
use Rattle.xls_beside.proofs.styles.put_damages.Goals as goal

pub loop-damage-init : goal.loop-damage-init
loop-damage-init g c = each-none (IsLineText c.args.form) _

pub loop-damage-preserved : goal.loop-damage-preserved
loop-damage-preserved g c =
    each-item (λ (d : Damage). damaged_style d ∷ []) c.args.damages.now c.loop-damage.damage-index _
    c.loop-damage-test.true c.loop-damage.invariant c.in_ok-put_damage.ensures

pub returns-in_err-put_damage : goal.returns-in_err-put_damage
returns-in_err-put_damage g c =
    puts-each-stop c.from_residual.result c.from_residual.ensures.1
    (each-stops-as (each-item-stopped (λ (d : Damage). damaged_style d ∷ []) c.args.damages.now c.loop-damage.damage-index _
    c.loop-damage-test.true c.loop-damage.invariant c.in_err-put_damage.ensures)
    (item_lines damaged_style c.args.damages.now))

pub returns : goal.returns
returns g c =
    each-as c.loop-damage.invariant
    (whole_lines (λ (d : Damage). damaged_style d ∷ []) c.args.damages.now _ c.loop-damage-test.false
    ∙ item_lines damaged_style c.args.damages.now)
