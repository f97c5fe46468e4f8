use Rattle.std.proofs.Common.{◌++◌, List, sym, ap, ◌∙◌, append_assoc}
use Rattle.std.proofs.lemmas.List.{append-nil}
use Rattle.xls_parts.specs.PartRecords.{Placed, placed_of}
use Rattle.xls_style_cells.specs.Places.{Place, places_in, places_of}
use Rattle.xls_style_cells.proofs.places.read_places.Goals as goal

pub records-init : goal.records-init
records-init c = (tt, tt, ap (λ (ps : List Place). ps ++ places_in c.into_iter-r-iterator.result) c.in_ok-found.ensures ∙ ap places_in (c.into_iter-r-iterator.ensures.into_iter_gives ∙ c.new-r-items.ensures))

pub records-preserved : goal.records-preserved
records-preserved c =
    let l = c.records in
    let r = placed_of c.in-Some.r in
    let left = places_in c.next.new.self in (
      tt,
      tt,
      ap (λ (ps : List Place). ps ++ left) c.in_ok-push_places.ensures
          ∙ append_assoc l.found (places_of r) left
          ∙ ap (λ (rs : List Placed). l.found ++ places_in rs) (sym c.in-Some.ensures.steps)
          ∙ l.invariant.2,
    )

pub returns : goal.returns
returns c =
    let l = c.records in
    sym (append-nil l.found) ∙ ap (λ (rs : List Placed). l.found ++ places_in rs) (sym c.in-None.ensures.steps.0) ∙ l.invariant.2
