use Rattle.std.proofs.Common.{◌++◌, ◌∷◌, [], List, map, refl, sym, ap, ◌∙◌, append_assoc, arith}
use Rattle.std.proofs.lemmas.List.{append-nil, map-append}
use Rattle.xls_biff.specs.Walking.{group_of}
use Rattle.xls_stream.specs.Listing.{kept_group}
use Rattle.xls_meaning.specs.Order.{somes}
use Rattle.xls_view.specs.SheetContents.{kept_in}
use Rattle.xls_view.specs.Formulas.{Formula, formula_of, formulas_kept}
use Rattle.xls_view.specs.Placed.{formula_placed}
use Rattle.xls_view.proofs.ContentLemmas.{formulas_next, left_bytes, none_over, none_cut}
use Rattle.xls_view.proofs.PlaceLemmas.{formulas_placed, tail_after, tail_bytes, tail_record, tail_short, tail_tail}
use Rattle.xls_view.proofs.formulas.places_of.Goals as goal

pub loop-item-init : goal.loop-item-init
loop-item-init c =
    let begins = c.into_iter-item-iterator.ensures.into_iter_gives ∙ c.new-item-items.ensures in
    rw (begins, c.in_ok-places.ensures) (tt, tt, λ i. omega (arith, c.type_inv.part i), ([], refl), refl)

pub returns-in-Err : goal.returns-in-Err
returns-in-Err c =
    let l = c.loop-item in
    let steps = rw c.in-Err.is at c.in-Some.ensures.steps in
    let none = none_cut formulas_kept refl l.item-iterator c.in-Err.field-0 l.invariant.2 steps.0 in
    sym (l.invariant.4 ∙ ap (λ (fs : List Formula). map (formula_placed c.args.part.now) l.places ++ fs) none ∙ append-nil (map (formula_placed c.args.part.now) l.places))

pub overflow_sub-part : goal.overflow_sub-part
overflow_sub-part c =
    let l = c.loop-item in
    let steps = rw c.in-Ok.is at c.in-Some.ensures.steps in
    let prefix = l.invariant.3.0 in
    tail_short c.args.part.now (prefix ++ steps.2.0) c.in-Ok.placed.0.now (tail_tail c.args.part.now prefix l.item-iterator.0 steps.2.0 c.in-Ok.placed.0.now l.invariant.3.1 steps.2.1)

pub loop-item-preserved : goal.loop-item-preserved
loop-item-preserved c =
    let l = c.loop-item in
    let part = c.args.part.now in
    let steps = rw c.in-Ok.is at c.in-Some.ensures.steps in
    let g = group_of c.in-Ok.placed.1 in
    let start = c.in-Ok.placed.0.now in
    let prefix = l.invariant.3.0 in
    let fits = tail_bytes l.item-iterator.0 steps.2.0 start l.invariant.2 steps.2.1 in
    let here = tail_record part (prefix ++ steps.2.0) start g steps.1.0 fits (tail_tail part prefix l.item-iterator.0 steps.2.0 start l.invariant.3.1 steps.2.1) steps.1.1 in
    let seen = formula_placed part in
    let rest = formulas_kept (kept_in c.next.new.self.0 c.next.new.self.1) in
    let more = somes (formula_of (kept_group g) ∷ []) in (
      tt,
      tt,
      left_bytes l.item-iterator g c.next.new.self l.invariant.2 steps.0,
      tail_after part prefix l.item-iterator.0 l.item-iterator.1 g c.next.new.self.0 c.next.new.self.1 l.invariant.3.1 steps.0,
      l.invariant.4
          ∙ ap (λ (fs : List Formula). map seen l.places ++ fs) (formulas_next l.item-iterator g c.next.new.self l.invariant.2 steps.0 (formula_of (kept_group g)) refl)
          ∙ sym (append_assoc (map seen l.places) more rest)
          ∙ ap (λ (fs : List Formula). fs ++ rest)
          (sym (ap (map seen) c.in_ok-push_formula.ensures ∙ map-append seen l.places _
          ∙ ap (λ (fs : List Formula). map seen l.places ++ fs) (formulas_placed part _ (kept_group g) here))),
    )

pub returns : goal.returns
returns c =
    let l = c.loop-item in
    let none = none_over formulas_kept refl l.item-iterator l.invariant.2 c.in-None.ensures.steps.0 in
    sym (l.invariant.4 ∙ ap (λ (fs : List Formula). map (formula_placed c.args.part.now) l.places ++ fs) none ∙ append-nil (map (formula_placed c.args.part.now) l.places))
