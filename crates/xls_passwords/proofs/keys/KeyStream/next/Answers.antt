use Rattle.std.proofs.Common.{◌∙◌}
use Rattle.xls_passwords.proofs.KeyLemmas.{here_first, here_more, key_byte-is}
use Rattle.xls_passwords.proofs.keys.KeyStream.next.Goals as goal

pub returns-then-self-eq0-clause-exact : goal.returns-then-self-eq0-clause-exact
returns-then-self-eq0-clause-exact c =
    c.next-byte.ensures.exact ∙ key_byte-is c.args.self.now c.next-byte.new.self c.requires.here c.next-byte.ensures.state

pub returns-then-self-eq0-clause-here : goal.returns-then-self-eq0-clause-here
returns-then-self-eq0-clause-here c = here_first c.args.self.now.keys _ c.block-self.result c.if-self-eq0.true c.block-self.ensures

pub returns-else-self-eq0-clause-exact : goal.returns-else-self-eq0-clause-exact
returns-else-self-eq0-clause-exact c =
    c.next-byte.ensures.exact ∙ key_byte-is c.args.self.now c.next-byte.new.self c.requires.here c.next-byte.ensures.state

pub returns-else-self-eq0-clause-here : goal.returns-else-self-eq0-clause-here
returns-else-self-eq0-clause-here c =
    here_more c.args.self.now c.next-byte.new.self c.requires.here c.next-byte.ensures.state c.if-self-eq0.false
