use Rattle.std.proofs.lemmas.Result.{err_from_is_err_and}
use Rattle.xls_biff.proofs.records.label_sst.find_label_sst.Goals as goal

pub returns-in_err-position : goal.returns-in_err-position
returns-in_err-position c =
    let p = err_from_is_err_and c.from_residual.result c.from_residual.ensures.1 in
    rw (p.1, p.2) (c.in_err-position.ensures c.args.strings.now)
