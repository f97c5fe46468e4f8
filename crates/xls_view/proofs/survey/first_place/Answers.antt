use Rattle.xls_view.proofs.PlainLemmas.{plain_placed}
use Rattle.xls_view.proofs.survey.first_place.Goals as goal

pub returns-then-is_placed_type : goal.returns-then-is_placed_type
returns-then-is_placed_type c =
    plain_placed c.args.settings.now.cells c.args.r.now.typ c.args.r.now.body.now c.cell_position.result c.cell_position.ensures (rw c.is_placed_type.ensures at c.if-is_placed_type.true)
