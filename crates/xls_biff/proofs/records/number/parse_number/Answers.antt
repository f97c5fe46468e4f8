use Rattle.std.proofs.lemmas.Result.{err_from_is_err_and}
use Rattle.xls_biff.proofs.records.number.parse_number.Goals as goal

pub returns-in_err-cell : goal.returns-in_err-cell
returns-in_err-cell c =
    let p = err_from_is_err_and c.from_residual.result c.from_residual.ensures.1 in
    rw (p.1, p.2) (c.in_err-cell.ensures c.args.formats.now c.args.is_1904)
