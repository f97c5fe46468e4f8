use Rattle.std.proofs.Common.{◌∙◌, ap, List}
use Rattle.xls_range.specs.Positions.{last_at}
use Rattle.xls_style_cells.specs.Places.{Place}
use Rattle.xls_style_cells.proofs.PlaceLemmas.{in_order}
use Rattle.xls_style_cells.proofs.places.places_in_order.Goals as goal

pub returns : goal.returns
returns c = λ version.
    in_order c.args.part.now version c.settled.result c.settled.ensures.ascending
    (λ p. c.settled.ensures.last p ∙ ap (λ (ps : List Place). last_at ps p) c.in_ok-found.ensures)
