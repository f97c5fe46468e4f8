-- Bytes by a test.
use Rattle.std.proofs.Common.{◌≡◌, ℕ, zero, suc, ◌<◌, List, [], ◌∷◌, Bool, true, false, refl, arith}
use Rattle.std.specs.Prelude.{◌&&◌, nat_lt}
use Rattle.xls_stream.specs.Walks.{IsBytes}
use Rattle.xls_open.specs.Bytes.{are_bytes}

both : (a b : Bool) → (a && b) ≡ true → (a ≡ true) × (b ≡ true)
both true true e = (refl, refl)
both true false e = absurd cc
both false b e = absurd cc

pub bytes_where : (bytes : List ℕ) → are_bytes bytes ≡ true → IsBytes bytes
bytes_where [] e i = omega arith
bytes_where (b ∷ bs) e zero = let t = (both (nat_lt b 256) (are_bytes bs) e).0 in grind arith
bytes_where (b ∷ bs) e (suc i) = bytes_where bs (both (nat_lt b 256) (are_bytes bs) e).1 i

pub where_bytes : (bytes : List ℕ) → IsBytes bytes → are_bytes bytes ≡ true
where_bytes [] h = refl
where_bytes (b ∷ bs) h =
    let l : b < 256 = h 0 in
    let t : nat_lt b 256 ≡ true = grind arith in
    rw t (where_bytes bs (λ i. h (suc i)))
