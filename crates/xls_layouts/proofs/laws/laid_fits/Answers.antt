use Rattle.xls_layouts.proofs.LaidFitLemmas.{laid_fits}
use Rattle.xls_layouts.proofs.laws.laid_fits.Goals as goal

pub returns : goal.returns
returns c = laid_fits
