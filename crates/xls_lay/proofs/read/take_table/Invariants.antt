use Rattle.std.proofs.Common.{◌≡◌, ◌<◌, ◌^◌, List, Ok}
use Rattle.xls_stream.specs.StringTable.{Mark, weight}
use Rattle.xls_strings.specs.Sst.{sst_marks}
use Rattle.xls_lay.proofs.TableReadLemmas.{ReadSoFar}
use Rattle.xls_lay.proofs.read.take_table.Given as goal

abbrev pub invariant-loop-units : goal.invariant-loop-units
invariant-loop-units l =
    (start : List Mark) × (sst_marks l.r.body.now l.r.pieces ≡ Ok start) × (weight start < 2 ^ 32)
    × ReadSoFar l.fn.list l.list start l.reader

abbrev pub decreases-loop-units : goal.decreases-loop-units
decreases-loop-units l = weight l.reader
