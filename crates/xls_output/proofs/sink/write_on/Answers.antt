use Rattle.std.proofs.Common.{ℕ, List, Option, Some, None, Result, Ok, Err, ap, ◌∙◌, ◌++◌}
use Rattle.std.specs.Io.KnownBytes.{Appends, Keeps, WriteAppends}
use Rattle.std.proofs.KnownBytes.{Keeps-trans}
use Rattle.xls_output.proofs.sink.write_on.Goals as goal

kept_appends : (was held now : Option (List ℕ)) (input : List ℕ) → Keeps was held → Appends held now input → Appends was now input
kept_appends None held now input kept grown = tt
kept_appends (Some xs) None now input kept grown = absurd kept
kept_appends (Some xs) (Some ys) None input kept grown = absurd grown
kept_appends (Some xs) (Some ys) (Some zs) input kept grown = grown ∙ ap (λ bytes. bytes ++ input) kept

-- a write after what was kept
kept_writes : {E : Type 0} (was held now : Option (List ℕ)) (r : Result ℕ E) (piece : List ℕ)
    → Keeps was held → WriteAppends held now r piece → WriteAppends was now r piece
kept_writes was held now (Ok n) piece kept written = kept_appends was held now _ kept written
kept_writes was held now (Err e) piece kept written = Keeps-trans was held now kept written

pub returns-clause-bytes : goal.returns-clause-bytes
returns-clause-bytes g c = kept_writes _ _ _ c.write-2.result _ c.loop.invariant c.write-2.ensures.bytes
