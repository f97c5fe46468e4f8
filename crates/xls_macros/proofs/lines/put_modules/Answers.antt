use Rattle.std.proofs.Common.{◌∷◌, [], ◌∙◌, ap}
use Rattle.std.specs.List.{flat_map}
use Rattle.std.proofs.lemmas.List.{take_all}
use Rattle.xls_output.proofs.EachLemmas.{each-as, each-item, each-item-stopped, each-none, each-stops-as, puts-each-stop}
use Rattle.xls_macros.specs.Lines.{IsPartText, module_named}
use Rattle.xls_macros.proofs.LineLemmas.{single_parts}
use Rattle.xls_macros.proofs.lines.put_modules.Goals as goal

pub loop-name-init : goal.loop-name-init
loop-name-init g c = each-none (IsPartText c.args.form c.args.macros.now) _

pub returns-in_err-put_named : goal.returns-in_err-put_named
returns-in_err-put_named g c =
    puts-each-stop c.from_residual.result c.from_residual.ensures.1
    (each-stops-as (each-item-stopped (λ name. module_named name.now ∷ []) c.args.names.now c.loop-name.name-index _ c.loop-name-test.true
    c.loop-name.invariant c.in_err-put_named.ensures) (single_parts (λ name. name.now) c.args.names.now))

pub loop-name-preserved : goal.loop-name-preserved
loop-name-preserved g c =
    each-item (λ name. module_named name.now ∷ []) c.args.names.now c.loop-name.name-index _ c.loop-name-test.true
    c.loop-name.invariant c.in_ok-put_named.ensures

pub returns : goal.returns
returns g c =
    each-as c.loop-name.invariant (ap (flat_map (λ name. module_named name.now ∷ [])) (take_all c.loop-name.name-index c.args.names.now c.loop-name-test.false)
    ∙ single_parts (λ name. name.now) c.args.names.now)
