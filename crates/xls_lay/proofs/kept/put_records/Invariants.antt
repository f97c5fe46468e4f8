use Rattle.xls_lay.specs.BytesOutput.{bytes_output}
use Rattle.xls_lay.proofs.InsideLemmas.{KeptOn}
use Rattle.xls_lay.proofs.kept.put_records.Given as goal

abbrev pub invariant-loop-head : goal.invariant-loop-head
invariant-loop-head g l =
    let output = bytes_output g.K.Sink.state in
    KeptOn (output l.fn.out) (output l.out) l.heads l.bytes l.rest l.head-index
