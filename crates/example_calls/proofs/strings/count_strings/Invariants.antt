use Rattle.example_calls.proofs.CountLemmas.{Passed}
use Rattle.example_calls.proofs.strings.count_strings.Given as goal

-- no table stands in the records so far
abbrev pub invariant-loop-record : goal.invariant-loop-record
invariant-loop-record l = Passed l.fn.stream l.record-iterator
