use Rattle.std.proofs.Common.{ap, ◌∙◌}
use Rattle.xls_range.specs.Positions.{Position}
use Rattle.xls_view.specs.SheetContents.{settled}
use Rattle.xls_view.specs.Placed.{value_at}
use Rattle.xls_view.specs.declared.cell_place.CellPlace.{CellPlace}
use Rattle.xls_view.proofs.PlaceLemmas.{sorted_seen}
use Rattle.xls_view.proofs.formatted.in_order.Goals as goal

pub returns : goal.returns
returns c =
    sorted_seen (λ (p : Position) (x : CellPlace). (value_at c.args.settings.now c.args.part.now p x.offset, x.xf)) c.in_ok-places.places c.settled.result c.settled.ensures.ascending
    c.settled.ensures.last
    ∙ ap settled c.in_ok-places.ensures
