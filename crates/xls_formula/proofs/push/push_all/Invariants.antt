use Rattle.std.proofs.Common.{◌≡◌, ◌++◌, drop, map}
use Rattle.xls_formula.specs.Table.{table_function}
use Rattle.xls_formula.proofs.push.push_all.Given as goal

-- the table, and the functions that are left, are the whole
abbrev pub invariant-loop-name : goal.invariant-loop-name
invariant-loop-name l =
    l.table ++ map table_function (drop l.name-index l.functions)
    ≡ l.fn.table ++ map table_function l.functions
