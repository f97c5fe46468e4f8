use Rattle.std.proofs.Common.{sym, ap, ◌∙◌}
use Rattle.xls_cell_formats.specs.Contents.{truth_word}
use Rattle.xls_cell_formats.proofs.TextLemmas.{word_true, word_false}
use Rattle.xls_cell_formats.proofs.contents.truth_word.Goals as goal

pub returns-then-truth : goal.returns-then-truth
returns-then-truth c = word_true ∙ sym (ap truth_word c.if-truth.true)

pub returns-else-truth : goal.returns-else-truth
returns-else-truth c = word_false ∙ sym (ap truth_word c.if-truth.false)
