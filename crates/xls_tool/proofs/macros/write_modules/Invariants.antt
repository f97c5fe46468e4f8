use Rattle.xls_tool.specs.Outputs.{KeepsOutputs}
use Rattle.xls_tool.proofs.macros.write_modules.Given as goal

-- only such files are made as the request may make
abbrev pub invariant-loop-index : goal.invariant-loop-index
invariant-loop-index g l =
    KeepsOutputs g.H.Host.tells g.H.File.Sink.state l.files.job.now.request l.files.job.now.reading.options
    (g.H.Host.files l.fn.host) (g.H.Host.files l.host)
