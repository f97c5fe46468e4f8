use Rattle.std.proofs.Common.{[], ◌∷◌, ◌++◌, ap, ◌∙◌, arith}
use Rattle.xls_parts.specs.PartRecords.{placed_of}
use Rattle.xls_style_cells.specs.Places.{Place}
use Rattle.xls_style_cells.proofs.PlaceLemmas.{more_places, all_places}
use Rattle.xls_style_cells.proofs.places.push_places.Goals as goal

pub cells-preserved : goal.cells-preserved
cells-preserved c =
    more_places (placed_of c.args.r.now) c.args.places.now c.cells.places c.push.new.self c.cells.i c.position_in.result c.cells.invariant c.position_in.ensures (c.in_ok-push.ensures ∙ ap (λ (x : Place). c.cells.places ++ x ∷ []) c.new.ensures)

pub returns : goal.returns
returns c =
    all_places (placed_of c.args.r.now) c.args.places.now c.cells.places c.cells.i c.cells.invariant (omega (arith, c.cells.auto.i-end, c.cells-test.false, c.cell_count-count.ensures.count))
