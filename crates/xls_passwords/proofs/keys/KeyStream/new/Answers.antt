use Rattle.std.proofs.Common.{refl}
use Rattle.xls_passwords.proofs.KeyLemmas.{here_first}
use Rattle.xls_passwords.proofs.keys.KeyStream.new.Goals as goal

pub returns-clause-here : goal.returns-clause-here
returns-clause-here c = here_first c.args.keys 0 c.block.result refl c.block.ensures
