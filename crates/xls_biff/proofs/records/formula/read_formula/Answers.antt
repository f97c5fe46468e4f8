use Rattle.std.proofs.Common.{refl}
use Rattle.std.proofs.lemmas.Result.{err_from_is_err_and}
use Rattle.xls_biff.specs.Cells.{class_at}
use Rattle.xls_biff.proofs.records.formula.read_formula.Goals as goal

pub returns-in_err-value : goal.returns-in_err-value
returns-in_err-value c = λ formats is_1904.
    let p = err_from_is_err_and c.from_residual-in_err-value.result c.from_residual-in_err-value.ensures.1 in
    rw (p.1, p.2, c.in_ok-need.ensures.exact, c.in_err-value.ensures (class_at formats c.args.r.now) is_1904) refl
