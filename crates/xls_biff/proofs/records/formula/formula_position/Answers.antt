use Rattle.xls_biff.proofs.PlaceLemmas.{at_formula, elsewhere, apart}
use Rattle.xls_biff.proofs.records.formula.formula_position.Goals as goal

-- a record of another type
pub returns-then-r-ne-FORMULA : goal.returns-then-r-ne-FORMULA
returns-then-r-ne-FORMULA c = λ settings g h.
    elsewhere settings c.args.r.now.typ c.args.r.now.body.now g (apart c.args.r.now.typ c.if-r-ne-FORMULA.true) h

pub returns : goal.returns
returns c = λ settings g h.
    at_formula settings c.args.r.now.body.now c.cell_position.result c.cell_position.ensures g (rw c.if-r-ne-FORMULA.false at h)
