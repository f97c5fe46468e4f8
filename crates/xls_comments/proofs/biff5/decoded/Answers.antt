use Rattle.xls_text.specs.Pages.{decoded}
use Rattle.xls_comments.proofs.TextLemmas.{text_spelled}
use Rattle.xls_comments.proofs.biff5.decoded.Goals as goal

pub returns : goal.returns
returns c = text_spelled c.in_ok-text.text (decoded c.args.page c.args.bytes.now) c.in_ok-text.ensures
