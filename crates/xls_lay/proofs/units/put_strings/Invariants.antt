use Rattle.xls_lay.specs.BytesOutput.{bytes_output}
use Rattle.xls_lay.specs.Putting.{TableHasRoom}
use Rattle.xls_lay.proofs.StringLemmas.{PutStrings}
use Rattle.xls_lay.proofs.units.put_strings.Given as goal

abbrev pub invariant-loop-size : goal.invariant-loop-size
invariant-loop-size g l =
    let output = bytes_output g.K.Sink.state in
    PutStrings (output l.fn.out) l.fn.table (output l.out) l.table l.sizes l.units l.rest l.size-index × TableHasRoom l.table
