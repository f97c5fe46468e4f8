use Rattle.xls_tool.proofs.CauseLemmas.{told}
use Rattle.xls_tool.proofs.one.do_one.Goals as goal

pub returns-in-Err-2-clause-cause : goal.returns-in-Err-2-clause-cause
returns-in-Err-2-clause-cause g c out =
    told (g.H.Host.reads c.args.host.now c.args.placed.path.now) _ _ _ _ _ _ (c.in-Err.ensures.ends out) c.tell_problem.ensures.exact
