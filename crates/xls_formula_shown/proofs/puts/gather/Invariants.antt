use Rattle.std.proofs.Common.{◌≡◌, ◌≤◌, ◌+◌, ◌-◌, length}
use Rattle.xls_formula_shown.specs.Steps.{joins}
use Rattle.xls_formula_shown.proofs.puts.gather.Given as goal

abbrev pub invariant-commas : goal.invariant-commas
invariant-commas l = (joins (l.count - l.i) l.stack ≡ joins (l.count - 1) l.initial.stack) × (l.count + 1 ≤ length l.stack + l.i)
