use Rattle.xls_strings.specs.Texts.{text_of}
use Rattle.xls_links.proofs.TextLemmas.{above_step}
use Rattle.xls_links.proofs.strings.above.Goals as goal

pub times-preserved : goal.times-preserved
times-preserved c = above_step (text_of c.times.text) (text_of c.push_text.new.text) c.times.left _ c.times-test.true c.in_ok-push_text.ensures c.times.invariant
