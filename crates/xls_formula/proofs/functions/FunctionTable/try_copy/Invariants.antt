use Rattle.std.proofs.Common.{◌≡◌, map, take}
use Rattle.xls_formula.specs.Functions.{function_of}
use Rattle.xls_formula.proofs.functions.FunctionTable.try_copy.Given as goal

-- the functions so far
abbrev pub invariant-loop-entry : goal.invariant-loop-entry
invariant-loop-entry l = l.copy ≡ map function_of (take l.entry-index l.entry-items)
