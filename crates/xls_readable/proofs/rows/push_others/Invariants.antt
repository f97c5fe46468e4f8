use Rattle.std.proofs.Common.{take}
use Rattle.std.specs.String.{string_bytes}
use Rattle.xls_output.specs.Added.{AddsText}
use Rattle.xls_output.specs.Each.{Concatenates}
use Rattle.xls_readable.specs.Csv.{IsSeparated}
use Rattle.xls_readable.proofs.rows.push_others.Given as goal

-- the values so far are added
abbrev pub invariant-loop-value : goal.invariant-loop-value
invariant-loop-value l =
    AddsText (Concatenates (IsSeparated l.delimiter) (take l.value-index l.values)) (string_bytes l.fn.buf) (string_bytes l.buf)
