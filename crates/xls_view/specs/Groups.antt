-- The groups of a list of bytes, by the law that it has exactly one list of them.
use Rattle.std.specs.Prelude.{◌≡◌, ℕ, List, [], Bool, true, false, refl, Option, None}
use Rattle.xls_stream.specs.Stream.{Group}
use Rattle.xls_stream.specs.declared.part.Part.{Part}
use Rattle.xls_stream.proofs.Ends.{has_groups}
use Rattle.xls_open.specs.Bytes.{are_bytes}
use Rattle.xls_open.proofs.ByteLemmas.{bytes_where}

-- where each number is a byte, the groups that stand there and how the bytes end
abbrev pub groups_by : (bytes : List ℕ) (b : Bool) → are_bytes bytes ≡ b → List Group × Option Part
groups_by bytes true e = let g = has_groups bytes (bytes_where bytes e) in (g.0, g.1)
groups_by bytes false e = ([], None)

abbrev pub groups_in : List ℕ → List Group × Option Part
groups_in bytes = groups_by bytes (are_bytes bytes) refl
