use Rattle.std.proofs.lemmas.Result.{err_from_is_err_and}
use Rattle.xls_open.proofs.OpeningLemmas.{all_read}
use Rattle.xls_book.proofs.OpenLemmas.{bytes_open, refused_open}
use Rattle.xls_book.proofs.xls.Xls.new_with_options.Goals as goal

-- the read was refused
pub returns-in_err-bytes-clause-opens : goal.returns-in_err-bytes-clause-opens
returns-in_err-bytes-clause-opens g c =
    let p = err_from_is_err_and c.from_residual.result c.from_residual.ensures.1 in
    let read = c.in_err-bytes.ensures in
    rw (p.1, p.2) (refused_open c.args.options _ _ c.in_err-bytes.field-0.0 read.cause read.prefix read.count)

pub returns-clause-opens : goal.returns-clause-opens
returns-clause-opens g c =
    let read = c.in_ok-bytes.ensures in
    let same = all_read _ _ c.in_ok-bytes.bytes read.all read.end in
    bytes_open c.args.options c.in_ok-bytes.bytes _ _ c.open_bytes.result same read.within (rw (← c.as_slice.ensures) c.open_bytes.ensures) read.end read.prefix read.count read.faultless
