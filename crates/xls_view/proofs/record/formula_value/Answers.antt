use Rattle.std.proofs.Common.{ℕ, List, Some, ap}
use Rattle.std.proofs.lemmas.Str.{chars-nil}
use Rattle.xls_data.specs.Content.{text}
use Rattle.xls_view.proofs.record.formula_value.Goals as goal

pub returns-in-EmptyText : goal.returns-in-EmptyText
returns-in-EmptyText c = rw c.in-EmptyText.is (ap (λ (cs : List ℕ). Some (text cs)) chars-nil)
