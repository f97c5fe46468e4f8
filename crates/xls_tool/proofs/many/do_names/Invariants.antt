use Rattle.xls_tool.specs.Outputs.{KeepsOutputs}
use Rattle.xls_tool.proofs.many.do_names.Given as goal

-- only such files are made as the request may make
abbrev pub invariant-loop : goal.invariant-loop
invariant-loop g l =
    KeepsOutputs g.H.Host.tells g.H.File.Sink.state l.job.request l.job.reading.options (g.H.Host.files l.fn.host) (g.H.Host.files l.host)
