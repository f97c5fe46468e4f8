use Rattle.std.proofs.Common.{◌≡◌, ◌-◌, ◌≤◌, ℕ, length, take}
use Rattle.std.specs.Io.KnownBytes.{Appends}
use Rattle.xls_output.proofs.sink.write_all.Given as goal

-- the piece up to here was written, and no write has failed
abbrev pub invariant-loop-at : goal.invariant-loop-at
invariant-loop-at g l =
    let before = g.K.Sink.state l.fn.sink in
    let now = g.K.Sink.state l.sink in
    record {
      within : l.at ≤ length l.piece;
      written : Appends before.written now.written (take l.at l.piece);
      kept : now.faults ≡ before.faults;
      takes : (n : ℕ) → length l.piece ≤ n → before.takes n → now.takes (n - l.at);
    }

abbrev pub decreases-loop-at : goal.decreases-loop-at
decreases-loop-at g l = length l.piece - l.at
