use Rattle.xls_lay.specs.BytesOutput.{bytes_output}
use Rattle.xls_lay.proofs.WriteLemmas.{PartsOn}
use Rattle.xls_lay.proofs.write.put_parts.Given as goal

abbrev pub invariant-loop-entry : goal.invariant-loop-entry
invariant-loop-entry g l =
    let output = bytes_output g.K.Sink.state in
    PartsOn (output l.fn.out) (output l.out) l.entries l.entry-index
