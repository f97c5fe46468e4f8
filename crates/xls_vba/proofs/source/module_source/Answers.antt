use Rattle.std.proofs.lemmas.Result.{err_from_is_err_and}
use Rattle.xls_vba.proofs.ContainerLemmas.{fails_source}
use Rattle.xls_vba.proofs.source.module_source.Goals as goal

pub returns-in_err-bytes : goal.returns-in_err-bytes
returns-in_err-bytes c =
    let p = err_from_is_err_and c.from_residual.result c.from_residual.ensures.1 in
    rw (p.1, p.2) (fails_source c.in_err-bytes.field-0.0 c.args.stream.now c.split_at.result.1.now
    c.args.offset c.if-stream-start.false c.split_at.ensures.back c.in_err-bytes.ensures)
