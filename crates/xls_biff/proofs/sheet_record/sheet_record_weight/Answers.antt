use Rattle.std.proofs.Common.{◌∙◌}
use Rattle.xls_biff.proofs.TableLemmas.{weight_by_the_table, all_cells}
use Rattle.xls_biff.proofs.sheet_record.sheet_record_weight.Goals as goal

pub returns-then-r-eq-MUL_RK-clause-table : goal.returns-then-r-eq-MUL_RK-clause-table
returns-then-r-eq-MUL_RK-clause-table c = λ settings.
    rw c.if-r-eq-MUL_RK.true (all_cells settings c.args.r.now.body.now c.weight_of_mul_rk.result (c.weight_of_mul_rk.ensures.cells settings.classes settings.is_1904))

pub returns-clause-table : goal.returns-clause-table
returns-clause-table c = λ settings g e.
    c.weight_by_type.ensures ∙ weight_by_the_table c.args.r.now.typ c.if-r-eq-MUL_RK.false settings c.args.r.now.body.now g e
