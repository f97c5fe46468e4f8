use Rattle.std.proofs.Common.{ℕ, List, Option, Some, None, Result, Ok, Err, sym, ◌∙◌}
use Rattle.std.specs.Io.KnownBytes.{Consumes, Keeps, ReadConsumes}
use Rattle.std.proofs.KnownBytes.{Keeps-trans}
use Rattle.xls_record.proofs.source.read_on.Goals as goal

kept_consumes : (was left now : Option (List ℕ)) (input : List ℕ) → Keeps was left → Consumes left now input → Consumes was now input
kept_consumes None left now input kept taken = tt
kept_consumes (Some xs) None now input kept taken = absurd kept
kept_consumes (Some xs) (Some ys) None input kept taken = absurd taken
kept_consumes (Some xs) (Some ys) (Some zs) input kept taken = sym kept ∙ taken

-- a read of what was kept
kept_reads : {E : Type 0} (was left now : Option (List ℕ)) (r : Result ℕ E) (buf : List ℕ)
    → Keeps was left → ReadConsumes left now r buf → ReadConsumes was now r buf
kept_reads was left now (Ok n) buf kept read = (kept_consumes was left now _ kept read.0, read.1)
kept_reads was left now (Err e) buf kept read = Keeps-trans was left now kept read

pub returns-clause-bytes : goal.returns-clause-bytes
returns-clause-bytes g c = kept_reads _ _ _ c.read-2.result _ c.loop.invariant c.read-2.ensures.bytes
