use Rattle.std.proofs.Common.{◌≡◌, ◌++◌, take}
use Rattle.xls_formula.specs.Functions.{functions_paired}
use Rattle.xls_formula.proofs.functions.FunctionTable.push_all.Given as goal

abbrev pub invariant-names : goal.invariant-names
invariant-names l = l.self ≡ l.initial.self ++ take l.i (functions_paired l.names l.counts)
