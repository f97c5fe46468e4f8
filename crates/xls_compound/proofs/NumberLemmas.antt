-- Numbers of four bytes each.
use Rattle.std.proofs.Common.{◌≡◌, ℕ, ◌+◌, ◌-◌, ◌*◌, ◌%◌, ◌/◌, ◌<◌, ◌≤◌, suc, zero, List, [], ◌∷◌, length, take, refl, ◌∙◌, ap, arith}
use Rattle.xls_bytes.specs.Numbers.{le, u32s_of}

-- so many whole numbers
whole_numbers : (k : ℕ) (bytes : List ℕ) → 4 * k ≤ length bytes → length bytes < 4 * k + 4 → u32s_of (take (4 * k) bytes) ≡ u32s_of bytes
whole_numbers zero [] h less = refl
whole_numbers zero (a ∷ []) h less = refl
whole_numbers zero (a ∷ b ∷ []) h less = refl
whole_numbers zero (a ∷ b ∷ c ∷ []) h less = refl
whole_numbers zero (a ∷ b ∷ c ∷ d ∷ bytes) h less = absurd (omega arith)
whole_numbers (suc k) [] h less = absurd (omega arith)
whole_numbers (suc k) (a ∷ []) h less = absurd (omega arith)
whole_numbers (suc k) (a ∷ b ∷ []) h less = absurd (omega arith)
whole_numbers (suc k) (a ∷ b ∷ c ∷ []) h less = absurd (omega arith)
whole_numbers (suc k) (a ∷ b ∷ c ∷ d ∷ bytes) h less =
    let more : 4 * suc k ≡ suc (suc (suc (suc (4 * k)))) = omega arith in
    ap (λ (n : ℕ). u32s_of (take n (a ∷ b ∷ c ∷ d ∷ bytes))) more
    ∙ ap (λ (ns : List ℕ). le (a ∷ b ∷ c ∷ d ∷ []) ∷ ns) (whole_numbers k bytes (omega arith) (omega arith))

-- bytes at the end that are no whole number are in none
pub u32s_of_whole : (bytes : List ℕ) → u32s_of (take (length bytes - length bytes % 4) bytes) ≡ u32s_of bytes
u32s_of_whole bytes =
    let whole : length bytes - length bytes % 4 ≡ 4 * (length bytes / 4) = omega arith in
    ap (λ (n : ℕ). u32s_of (take n bytes)) whole ∙ whole_numbers (length bytes / 4) bytes (omega arith) (omega arith)
