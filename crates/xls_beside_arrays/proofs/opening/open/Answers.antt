use Rattle.xls_arrays.proofs.HeldLemmas.{err-as}
use Rattle.xls_beside_arrays.specs.Opened.{RefusesBook}
use Rattle.xls_beside_arrays.proofs.OpenLemmas.{bytes-refused-book}
use Rattle.xls_beside_arrays.proofs.opening.open.Goals as goal

pub returns-in_err-refuse_bytes-clause-err : goal.returns-in_err-refuse_bytes-clause-err
returns-in_err-refuse_bytes-clause-err c =
    let stream = c.args.stream.now in
    err-as (RefusesBook c.args.options.now stream) c.from_residual.result _ c.from_residual.ensures.1
    (bytes-refused-book c.args.options.now stream _ c.in_err-refuse_bytes.ensures.err)
