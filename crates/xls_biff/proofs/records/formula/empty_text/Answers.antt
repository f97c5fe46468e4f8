use Rattle.std.proofs.Common.{ℕ, List, ap, ◌∙◌}
use Rattle.std.specs.Str.{chars}
use Rattle.std.proofs.lemmas.Str.{chars-nil}
use Rattle.xls_data.specs.Content.{text}
use Rattle.xls_biff.proofs.records.formula.empty_text.Goals as goal

pub returns : goal.returns
returns c = ap (λ (bs : List ℕ). text (chars bs)) c.new.ensures.bytes ∙ ap text chars-nil
