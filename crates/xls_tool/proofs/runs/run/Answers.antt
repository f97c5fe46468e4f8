use Rattle.std.proofs.Common.{None, false, subst, sym}
use Rattle.xls_tool.proofs.runs.run.Goals as goal
use Rattle.xls_tool.specs.Texts.{HasCause, reading_under}
use Rattle.xls_words.specs.Requests.{plain_command}

pub returns-clause-cause : goal.returns-clause-cause
returns-clause-cause g c word path asks plain other =
    subst (HasCause (g.H.Host.reads c.args.host.now path) (plain_command word) (reading_under None false) (g.K.Sink.state c.args.out.now) _) (sym c.status_of.ensures.exact) (c.do_words-done.ensures.cause word path asks plain other)
