use Rattle.std.proofs.Common.{◌≡◌, ◌∙◌, sym}
use Rattle.xls_biff.specs.Records.Rk.{mul_rk_count, rk_cell}
use Rattle.xls_biff.proofs.ListLemmas.{length-listed}
use Rattle.xls_biff.proofs.records.rk.weight_of_mul_rk.Goals as goal
use Rattle.xls_biff.proofs.records.rk.weight_of_mul_rk.Goals.{in-Ok, in-Err}

pub returns-clause-cells : goal.returns-clause-cells
returns-clause-cells c = λ formats is_1904 cells e.
    let h = length-listed (rk_cell formats is_1904 c.args.r.now) (mul_rk_count c.args.r.now) cells e in
    elim c.match-count_mul_rk.branch [
      | in-Ok w ↦ let k = sym h.1 ∙ w.in-Ok.ensures.exact in let n : h.0 ≡ w.in-Ok.count = cc in w.result-is ∙ sym n ∙ h.2
      | in-Err w ↦ let k = sym h.1 ∙ w.in-Err.ensures.exact in absurd cc
    ]
