use Rattle.xls_biff.specs.Walking.{group_of}
use Rattle.example_calls.proofs.CountLemmas.{passed-one}
use Rattle.example_calls.proofs.strings.count_strings.Goals as goal

pub loop-record-preserved : goal.loop-record-preserved
loop-record-preserved c =
    let l = c.loop-record in
    passed-one c.args.stream.now l.record-iterator c.next.new.self (group_of c.in_ok-record.record) l.invariant (rw c.in_ok-record.was at c.in-Some.ensures.steps) c.if-record-eq-SST.false
