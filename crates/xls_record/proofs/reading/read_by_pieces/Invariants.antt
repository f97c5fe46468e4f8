use Rattle.std.proofs.Common.{◌≡◌, ◌+◌, ◌-◌, ◌≤◌, vec_len}
use Rattle.std.specs.Io.KnownBytes.{Consumes}
use Rattle.xls_record.proofs.reading.read_by_pieces.Given as goal

-- the bytes so far are within the limit and were taken, and no read has failed
abbrev pub invariant-loop-bytes : goal.invariant-loop-bytes
invariant-loop-bytes g l =
    let state = g.S.Source.state in
    record {
      within : vec_len l.bytes ≤ l.limit;
      taken : Consumes (state l.fn.source).left (state l.source).left l.bytes.items;
      faultless : (state l.source).faults ≡ (state l.fn.source).faults;
    }

abbrev pub decreases-loop-bytes : goal.decreases-loop-bytes
decreases-loop-bytes g l = l.limit + 1 - vec_len l.bytes
