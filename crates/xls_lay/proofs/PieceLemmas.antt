-- Bytes that are appended, and passed on.
use Rattle.std.proofs.Common.{◌≡◌, ℕ, List, [], ◌++◌, Result, Ok, Err}
use Rattle.xls_output.specs.Output.{Output, Puts}
use Rattle.xls_output.specs.SinkState.{SinkState}
use Rattle.xls_output.specs.declared.stop.Stop.{Stop}
use Rattle.xls_output.proofs.OutputLemmas.{gathers-added, gathers-after, stops-after}

-- bytes were appended, and then what was gathered was passed on, or not
pub added_passed : {X : Type 0} (w : SinkState) (n : ℕ) (g h text : List ℕ) (b : Output) (r : Result X Stop)
    → h ≡ g ++ text → Puts (record { sink = w; kept = h; lender = n }) b [] r → Puts (record { sink = w; kept = g; lender = n }) b text r
added_passed w n g h text b (Ok x) e p = gathers-after (gathers-added g h text e) p
added_passed w n g h text b (Err d) e p = stops-after (gathers-added g h text e) p
