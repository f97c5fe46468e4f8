use Rattle.std.proofs.Common.{◌++◌, ◌∷◌, List, map, sym, ap, ◌∙◌}
use Rattle.xls_view.specs.Formulas.{Formula}
use Rattle.xls_view.specs.Placed.{formula_placed}
use Rattle.xls_view.specs.Walking.{formula_seen}
use Rattle.xls_range.specs.Positions.{numbered_entry}
use Rattle.xls_view.proofs.formulas.FormulaCellsIterator.next.Goals as goal

pub returns-clause-steps : goal.returns-clause-steps
returns-clause-steps c =
    let f = formula_placed c.self.inside.part.now in
    let place = rw c.in_ok-position.was at c.next_place.ensures in
    let ended = c.in_default.ensures.steps in
    sym c.self.view_is
    ∙ ap (λ (w : List Formula). w ++ map f (map numbered_entry c.self.inside.places.now)) ended.0
    ∙ ap (map f) place
    ∙ ap (λ (x : Formula). x ∷ map f (map numbered_entry c.next_place.new.places.now)) (sym c.placed_formula.ensures)
    ∙ ap (λ (w : List Formula). formula_seen c.placed_formula.result ∷ (w ++ map f (map numbered_entry c.next_place.new.places.now))) (sym ended.1)
