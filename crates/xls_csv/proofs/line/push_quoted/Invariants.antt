use Rattle.std.proofs.Common.{◌≡◌, ◌∷◌, ◌++◌, [], drop}
use Rattle.csv.specs.Writing.{default_writer, escaped, quoted}
use Rattle.xls_csv.proofs.line.push_quoted.Given as goal

-- the bytes so far, those that are left and the last quote
abbrev pub invariant-loop-i : goal.invariant-loop-i
invariant-loop-i l =
    l.bytes.items ++ (escaped default_writer (drop l.i l.text) ++ 34 ∷ []) ≡ l.fn.bytes.items ++ quoted default_writer l.text
