use Rattle.std.proofs.Common.{◌++◌, ◌∷◌, List, map, sym, ap, ◌∙◌}
use Rattle.xls_view.specs.Formats.{FormattedCell}
use Rattle.xls_view.specs.Placed.{cell_placed}
use Rattle.xls_view.specs.Values.{formatted_entry}
use Rattle.xls_range.specs.Positions.{numbered_entry}
use Rattle.xls_view.proofs.formatted.FormattedCellsIterator.next.Goals as goal

pub returns-clause-steps : goal.returns-clause-steps
returns-clause-steps c =
    let f = cell_placed c.self.inside.settings.now c.self.inside.part.now in
    let place = rw c.in_ok-position.was at c.next_place.ensures in
    let ended = c.in_default.ensures.steps in
    sym c.self.view_is
    ∙ ap (λ (w : List FormattedCell). w ++ map f (map numbered_entry c.self.inside.places.now)) ended.0
    ∙ ap (map f) place
    ∙ ap (λ (x : FormattedCell). x ∷ map f (map numbered_entry c.next_place.new.places.now)) (sym c.placed_cell.ensures)
    ∙ ap (λ (w : List FormattedCell). formatted_entry c.placed_cell.result ∷ (w ++ map f (map numbered_entry c.next_place.new.places.now))) (sym ended.1)
