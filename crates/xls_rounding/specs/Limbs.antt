-- For the proofs: naturals as limbs of 64 bits, and the double of a size at a scale.
use Rattle.std.specs.Prelude.{ℕ, ◌+◌, ◌-◌, ◌*◌, ◌/◌, ◌^◌, List, [], ◌∷◌}

-- the number that limbs hold, the lowest first
unfoldable pub value : List ℕ → ℕ
value [] = 0
value (limb ∷ limbs) = limb + value limbs * 2 ^ 64

-- what a 1 in limb i counts
unfoldable pub weight : ℕ → ℕ
weight i = 2 ^ (64 * i)

-- twice the size of a double of mantissa m and exponent field e, times 10 ^ (s - 308), rounded down
unfoldable pub twice_at : ℕ → ℕ → ℕ → ℕ
twice_at m e s = 2 * (m * 2 ^ (e - 1075)) * 10 ^ s / (2 ^ (1075 - e) * 10 ^ 308)
