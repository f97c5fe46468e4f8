use Rattle.std.proofs.Common.{◌≡◌, ℕ, length}
use Rattle.xls_comments.specs.Biff8.{notes_8}
use Rattle.xls_comments.specs.Objects.{Found}
use Rattle.xls_comments.proofs.biff8.next_note.Given as goal

abbrev pub invariant-loop-r : goal.invariant-loop-r
invariant-loop-r l = (found : ℕ → Found) → notes_8 found l.records ≡ notes_8 found l.initial.records

abbrev pub decreases-loop-r : goal.decreases-loop-r
decreases-loop-r l = length l.records
