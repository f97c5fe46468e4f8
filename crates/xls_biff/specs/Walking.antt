-- What a step of the walk over records gives.
use Rattle.std.specs.Prelude.{◌≡◌, ℕ, List, [], Option, Some, None, Result, Ok, Err}
use Rattle.xls_stream.specs.Stream.{Group, Begins}
use Rattle.xls_stream.specs.Cut.{Cut}
use Rattle.xls_stream.specs.declared.part.Part.{Part}
use Rattle.xls_record.specs.declared.record.Record.{Record}
use Rattle.xls_record.specs.declared.error.XlsError.{XlsError}
use Rattle.xls_record.specs.declared.error.XlsError.TheVariants.{EoStream}

abbrev pub group_of : Record → Group
group_of r = record { typ = r.typ; body = r.body.now; tail = r.pieces }

-- a call with these bytes left gave this and left those
abbrev pub Steps : List ℕ → Option (Result Record XlsError) → List ℕ → Type 0
Steps before None after = (before ≡ []) × (after ≡ [])
Steps before (Some (Ok r)) after = Begins before (group_of r) after
Steps before (Some (Err e)) after = (p : Part) × (e ≡ EoStream p) × Cut before p × (after ≡ [])
