use Rattle.std.proofs.Common.{ap, ◌∙◌}
use Rattle.xls_view.specs.SheetContents.{settled}
use Rattle.xls_view.specs.Placed.{placed_tokens}
use Rattle.xls_view.proofs.PlaceLemmas.{sorted_seen}
use Rattle.xls_view.proofs.formulas.in_order.Goals as goal

pub returns : goal.returns
returns c =
    sorted_seen (placed_tokens c.args.part.now) c.in_ok-places.places c.settled.result c.settled.ensures.ascending c.settled.ensures.last
    ∙ ap settled c.in_ok-places.ensures
