use Rattle.std.proofs.Common.{◌≡◌, drop}
use Rattle.csv.specs.Writing.{default_writer, needs_quotes}
use Rattle.xls_csv.proofs.line.is_quoted.Given as goal

-- the bytes that are left decide
abbrev pub invariant-loop-i : goal.invariant-loop-i
invariant-loop-i l = needs_quotes default_writer (drop l.i l.text) ≡ needs_quotes default_writer l.text
