use Rattle.xls_arrays.proofs.FilledLemmas.{all_begin}
use Rattle.xls_arrays.proofs.reading.fill_shown.Goals as goal

pub returns-then-fits-clause-ok : goal.returns-then-fits-clause-ok
returns-then-fits-clause-ok c =
    let laid = c.in_ok-sizes.ensures.ok in
    (laid.0, laid.1, laid.2, laid.3, all_begin c.lay_all_shown.new.rooms laid.1 laid.4 ((c.fits.ensures laid.1 laid.4).0 c.if-fits.true))
