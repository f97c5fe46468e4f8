use Rattle.xls_layouts.proofs.CanonicalListLemmas.{canonical_layout}
use Rattle.xls_layouts.proofs.laws.canonical_layout.Goals as goal

pub returns : goal.returns
returns c = canonical_layout
