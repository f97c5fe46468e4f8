use Rattle.xls_tool.proofs.CauseLemmas.{earlier}
use Rattle.xls_tool.proofs.runs.do_path.Goals as goal

pub returns-clause-cause : goal.returns-clause-cause
returns-clause-cause g c out other =
    earlier (g.H.Host.reads c.args.host.now) _ c.args.path.now _ _ _ _ _ c.place_of-place.ensures.stays (c.do_one.ensures.cause out)
