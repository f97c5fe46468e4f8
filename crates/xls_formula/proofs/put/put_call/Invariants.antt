use Rattle.std.proofs.Common.{◌≡◌, ◌≤◌, ◌+◌, ◌-◌, length}
use Rattle.xls_formula.specs.buffer.Put.{with_joins}
use Rattle.xls_formula.proofs.put.put_call.Given as goal

abbrev pub invariant-commas : goal.invariant-commas
invariant-commas l = (with_joins (l.count - l.i) l.texts ≡ with_joins (l.count - 1) l.initial.texts) × (l.count + 1 ≤ length l.texts + l.i)
