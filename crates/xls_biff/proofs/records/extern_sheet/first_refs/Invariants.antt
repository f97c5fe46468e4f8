use Rattle.std.proofs.Common.{◌≡◌, map}
use Rattle.std.specs.List.{range_with_len}
use Rattle.xls_biff.specs.Records.ExternSheet.{ref_at}
use Rattle.xls_biff.proofs.records.extern_sheet.first_refs.Given as goal

-- the references so far
abbrev pub invariant-loop-i : goal.invariant-loop-i
invariant-loop-i l = l.refs ≡ map (ref_at l.body) (range_with_len 0 l.i)
