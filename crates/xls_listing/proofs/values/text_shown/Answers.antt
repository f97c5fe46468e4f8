use Rattle.std.proofs.Common.{ℕ, List, Some, ap, codes}
use Rattle.xls_readable.specs.Items.{text}
use Rattle.xls_listing.proofs.DisplayedLemmas.{encoded}
use Rattle.xls_listing.proofs.values.text_shown.Goals as goal

pub returns-clause-shown : goal.returns-clause-shown
returns-clause-shown c = ap (λ (t : List ℕ). Some (codes "text", text t)) (encoded c.args.text.now c.utf8.text)
