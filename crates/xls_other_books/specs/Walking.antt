-- For the proofs: the records that are left while they are read.
use Rattle.std.specs.Prelude.{◌≡◌, ◌==◌, ℕ, List, [], ◌∷◌, Bool, false, Option, Some, None}
use Rattle.std.specs.Borrow.{Bor}
use Rattle.xls_stream.specs.declared.types.TheConstants.{CONTINUE}
use Rattle.xls_parts.specs.declared.part_records.PartRecord.{PartRecord}
use Rattle.xls_parts.specs.PartRecords.{Placed, placed_of}

-- a record that was taken and those behind it
abbrev pub with_next : Option PartRecord → List Placed → List Placed
with_next None rs = []
with_next (Some r) rs = placed_of r ∷ rs

-- the next record is of this type
abbrev pub is_at : ℕ → List Placed → Bool
is_at typ [] = false
is_at typ (r ∷ rs) = r.typ == typ

-- the body of a Continue was taken, or none is next
abbrev pub TakesContinue : List Placed → Option (Bor (List ℕ)) → List Placed → Type 0
TakesContinue before None after = (after ≡ before) × (is_at CONTINUE before ≡ false)
TakesContinue before (Some body) after = (r : Placed) × (r.typ ≡ CONTINUE) × (r.body ≡ body.now) × (before ≡ r ∷ after)
