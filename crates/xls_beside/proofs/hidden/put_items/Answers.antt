use Rattle.std.proofs.Common.{◌∷◌, []}
use Rattle.xls_output.proofs.EachLemmas.{each-as, each-some-all, each-some-first, each-some-next, each-some-stopped, each-stops-as, puts-each-stop}
use Rattle.xls_beside.specs.Hidden.{hidden}
use Rattle.xls_beside.specs.Lines.{IsLineText}
use Rattle.xls_beside.proofs.LineLemmas.{item_lines}
use Rattle.xls_beside.proofs.hidden.put_items.Goals as goal

pub loop-item-init : goal.loop-item-init
loop-item-init g c =
    (tt, tt, each-some-first (IsLineText c.args.form) (λ item. hidden item ∷ []) _ _ _ c.into_iter-item-iterator.ensures.into_iter_gives)

pub loop-item-preserved : goal.loop-item-preserved
loop-item-preserved g c =
    (tt, tt, each-some-next (λ item. hidden item ∷ []) c.loop-item.invariant.2 c.in-Some.ensures.steps c.in_ok-put_item.ensures)

pub returns-in_err-put_item : goal.returns-in_err-put_item
returns-in_err-put_item g c =
    puts-each-stop c.from_residual.result c.from_residual.ensures.1
    (each-stops-as (each-some-stopped (λ item. hidden item ∷ []) c.loop-item.invariant.2 c.in-Some.ensures.steps c.in_err-put_item.ensures)
    (item_lines hidden c.args.items))

pub returns : goal.returns
returns g c =
    each-as (each-some-all (λ item. hidden item ∷ []) c.loop-item.invariant.2 c.in-None.ensures.steps.0) (item_lines hidden c.args.items)
