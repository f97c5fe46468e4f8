use Rattle.std.proofs.Common.{◌∷◌, []}
use Rattle.xls_output.proofs.EachLemmas.{each-as, each-memory, each-some-all, each-some-first, each-some-next, each-some-stopped, each-stops-as, puts-each-stop}
use Rattle.xls_beside.specs.Links.{link}
use Rattle.xls_beside.specs.Lines.{IsLineText}
use Rattle.xls_beside.proofs.LineLemmas.{item_lines}
use Rattle.xls_beside.proofs.LinksLemmas.{given, lost}
use Rattle.xls_beside.proofs.links.put_items.Goals as goal

pub loop-next-init : goal.loop-next-init
loop-next-init g c =
    (tt, tt, each-some-first (IsLineText c.args.form) (λ item. link item ∷ []) _ _ _ c.into_iter-next-iterator.ensures.into_iter_gives)

pub loop-next-preserved : goal.loop-next-preserved
loop-next-preserved g c =
    (tt, tt, each-some-next (λ item. link item ∷ []) c.loop-next.invariant.2 (given c.in_ok-item.was c.in-Some.ensures.steps) c.in_ok-put_item.ensures)

pub loop-next-preserved-in_ok-put_item : goal.loop-next-preserved-in_ok-put_item
loop-next-preserved-in_ok-put_item g c =
    (tt, tt, each-some-next (λ item. link item ∷ []) c.loop-next.invariant.2 (given c.in_ok-item.was c.in-Some.ensures.steps) c.in_ok-put_item.ensures)

pub returns-in_err-item : goal.returns-in_err-item
returns-in_err-item g c =
    let (_, _, first, none) = lost c.in_err-item.was c.in-Some.ensures.steps in
    puts-each-stop c.from_residual.result c.from_residual.ensures.1
    (each-stops-as (each-some-stopped (λ item. link item ∷ []) c.loop-next.invariant.2 first (each-memory (IsLineText c.args.form) _))
    (item_lines link c.args.links))

pub returns-in_err-put_item : goal.returns-in_err-put_item
returns-in_err-put_item g c =
    let r = c.from_residual-in_err-put_item in
    puts-each-stop r.result r.ensures.1
    (each-stops-as (each-some-stopped (λ item. link item ∷ []) c.loop-next.invariant.2 (given c.in_ok-item.was c.in-Some.ensures.steps) c.in_err-put_item.ensures)
    (item_lines link c.args.links))

pub returns : goal.returns
returns g c =
    each-as (each-some-all (λ item. link item ∷ []) c.loop-next.invariant.2 c.in-None.ensures.steps.0) (item_lines link c.args.links)
