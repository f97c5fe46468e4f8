-- The numbers of each four bytes, in order.
use Rattle.std.proofs.Common.{◌≡◌, ℕ, ◌/◌, ◌≤◌, List, [], ◌∷◌, length, take, drop, refl, arith}
use Rattle.xls_bytes.specs.Numbers.{le, u32s_of}

-- the first four bytes, and the numbers of the bytes after them
pub u32s_of_more : (bytes : List ℕ) → 4 ≤ length bytes → u32s_of bytes ≡ le (take 4 bytes) ∷ u32s_of (drop 4 bytes)
u32s_of_more [] h = absurd (omega arith)
u32s_of_more (a ∷ []) h = absurd (omega arith)
u32s_of_more (a ∷ b ∷ []) h = absurd (omega arith)
u32s_of_more (a ∷ b ∷ c ∷ []) h = absurd (omega arith)
u32s_of_more (a ∷ b ∷ c ∷ d ∷ bytes) h = refl

pub u32s_of_none : (bytes : List ℕ) → length bytes ≡ 0 → u32s_of bytes ≡ []
u32s_of_none [] h = refl
u32s_of_none (a ∷ bytes) h = absurd (omega arith)

-- as many as there are whole groups of four
pub length_u32s_of : (bytes : List ℕ) → length (u32s_of bytes) ≡ length bytes / 4
length_u32s_of [] = refl
length_u32s_of (a ∷ []) = refl
length_u32s_of (a ∷ b ∷ []) = refl
length_u32s_of (a ∷ b ∷ c ∷ []) = refl
length_u32s_of (a ∷ b ∷ c ∷ d ∷ bytes) = omega (arith, length_u32s_of bytes)
