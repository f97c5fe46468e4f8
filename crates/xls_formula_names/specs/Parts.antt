-- For the proofs: texts that lie in parts.
use Rattle.std.specs.Prelude.{ℕ, List}
use Rattle.std.specs.Borrow.{Bor}
use Rattle.std.specs.List.{flat_map}
use Rattle.std.specs.Str.{chars}

abbrev pub joined : List (Bor (List ℕ)) → List ℕ
joined parts = flat_map (λ part. chars part.now) parts
