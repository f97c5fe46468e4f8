use Rattle.xls_layouts.proofs.LaidStreamLemmas.{laid_stream}
use Rattle.xls_layouts.proofs.laws.laid_stream.Goals as goal

pub returns : goal.returns
returns c = laid_stream
