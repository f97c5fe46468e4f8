use Rattle.std.proofs.Common.{map, arith}
use Rattle.xls_biff.specs.Cells.{CellEntry}
use Rattle.xls_view.specs.Surveying.{box_found}
use Rattle.xls_view.specs.declared.survey.FoundCells.{FoundCells}
use Rattle.xls_view.proofs.AscentLemmas.{box_with}
use Rattle.xls_view.proofs.SurveyLemmas.{found_with}
use Rattle.xls_view.proofs.survey.FoundCells.with.Goals as goal

pub returns : goal.returns
returns c = λ cells v h.
    let found : FoundCells = record { ascent = c.with.result; top = c.min.result; left = c.min-2.result; bottom = c.max.result; right = c.max-2.result } in
    let some = c.with.ensures.some in
    found_with found cells c.args.position v (box_found c.args.self)
    (c.with.ensures.steps (map (λ (e : CellEntry). e.0) cells) h.ascent)
    (box_with c.args.self found c.args.position (omega (arith, c.max.type_inv, c.max.ensures)) (omega (arith, c.max-2.type_inv, c.max-2.ensures)) h.unbounded
    some c.min.ensures c.min-2.ensures c.max.ensures c.max-2.ensures)
    h.bounds some
