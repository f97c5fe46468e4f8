-- The pieces of a record that Continue records follow.
use Rattle.std.proofs.Common.{◌≤◌, ℕ, List, [], ◌∷◌, length, arith}
use Rattle.std.proofs.lemmas.List.{length-append}
use Rattle.std.specs.List.{flat_map}
use Rattle.xls_stream.specs.Stream.{continues}
use Rattle.xls_stream.specs.StringTable.{marked_piece, weight}
use Rattle.xls_stream.proofs.StringUnits.{weight-bytes}

-- marks weigh no more than their Continue records
pub weight-pieces : (bodies : List (List ℕ)) → weight (flat_map marked_piece bodies) ≤ length (continues bodies)
weight-pieces [] = omega arith
weight-pieces (b ∷ bs) = omega (arith, weight-pieces bs, weight-bytes b (flat_map marked_piece bs), length-append b (continues bs))
