use Rattle.std.proofs.Common.{◌≡◌, ◌++◌}
use Rattle.xls_stream.specs.Stream.{record_bytes}
use Rattle.xls_stream.specs.declared.types.TheConstants as types
use Rattle.xls_command.specs.Sample.{sample_globals, sample_rows, part_body}
use Rattle.xls_command.proofs.sample.sample_bytes.Given as goal

-- the globals, the head of the sheet, and the rows so far
abbrev pub invariant-loop-row : goal.invariant-loop-row
invariant-loop-row l =
    l.bytes.items ≡ sample_globals ++ (record_bytes types.BOF part_body ++ sample_rows l.row)
