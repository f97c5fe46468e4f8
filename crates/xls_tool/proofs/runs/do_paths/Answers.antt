use Rattle.xls_tool.proofs.CauseLemmas.{of-one}
use Rattle.xls_tool.proofs.runs.do_paths.Goals as goal

pub returns-in-len1-clause-cause : goal.returns-in-len1-clause-cause
returns-in-len1-clause-cause g c =
    of-one (g.H.Host.reads c.args.host.now) c.args.job.now.request _ _ _ c.args.paths.now c.do_path.result c.do_path.ensures.cause
