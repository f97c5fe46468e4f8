-- Bodies, piece by piece.
use Rattle.std.proofs.Common.{◌≡◌, ◌≢◌, List, [], ◌∷◌, refl, ne_eqb}
use Rattle.xls_parts.specs.PartRecords.{Placed}
use Rattle.xls_bodies.specs.Bodies.{continued}

pub continued_end : continued [] ≡ []
unfolding continued
continued_end = refl

pub continued_more : (r : Placed) (rs : List Placed) → r.typ ≡ 0x003C → continued (r ∷ rs) ≡ r.body ∷ continued rs
unfolding continued
continued_more r rs e = rw e refl

pub continued_stop : (r : Placed) (rs : List Placed) → r.typ ≢ 0x003C → continued (r ∷ rs) ≡ []
unfolding continued
continued_stop r rs n = rw (ne_eqb r.typ 0x003C n) refl
