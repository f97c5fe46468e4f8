use Rattle.xls_bytes.proofs.CharacterLemmas.{split_once_is}
use Rattle.xls_bytes.proofs.characters.split_at_first.Goals as goal

pub returns : goal.returns
returns c = split_once_is c.args.c c.args.text.now c.split_once.result c.requires c.utf8.text c.split_once.ensures.cases (c.split_once.ensures.byte c.requires (λ w o h. h))
