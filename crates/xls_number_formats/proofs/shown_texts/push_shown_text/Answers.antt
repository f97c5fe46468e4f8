use Rattle.std.proofs.Common.{rules}
use Rattle.xls_bytes.proofs.GrownLemmas.{IsGrown-split}
use Rattle.xls_number_formats.proofs.shown_texts.push_shown_text.Goals as goal

pub truncate-requires : goal.truncate-requires
truncate-requires c = λ _. IsGrown-split _ _ _ c.append_section-done.ensures.grown (search rules)
