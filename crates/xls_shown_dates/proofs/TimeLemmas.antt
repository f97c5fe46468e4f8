-- Decimals without their part below one.
use Rattle.std.proofs.Common.{add-one, ◌≡◌, ℕ, suc, ◌+◌, ◌*◌, ◌/◌, ◌^◌, ◌<◌, ◌≤◌, ap, arith, lit<, ℤ, pos, negsuc, ◌<ℤ◌}
use Rattle.std.specs.Prelude.{unsigned_abs}
use Rattle.std.proofs.lemmas.Int.{ints}
use Rattle.std.proofs.Math.Nat.{one-le-pow, pow-le-pow_right, div-eq_of_lt}
use Rattle.xls_rounding.specs.Fractions.{whole, ten_to}
use Rattle.xls_shown_dates.specs.Moments.{cut}

pub ten_pos : (k : ℕ) → 0 < 10 ^ k
ten_pos k = one-le-pow k 10 (lit< tt)

ten_le : (j k : ℕ) → j ≤ k → 10 ^ j ≤ 10 ^ k
ten_le j k p = pow-le-pow_right {n = 10} (lit< tt) p

-- a number of 64 bits has at most 20 digits
pub none_left : (n s : ℕ) → n < 2 ^ 64 → 19 < s → n / 10 ^ s ≡ 0
none_left n s p q =
    let far : 10 ^ 20 ≤ 10 ^ s = ten_le 20 s (omega arith) in
    div-eq_of_lt (omega arith)

pub cut_below : (n : ℕ) (z : ℤ) → z <ℤ pos 0 → cut (ten_to z (whole n)) ≡ n / 10 ^ unsigned_abs z
cut_below n (pos k) p = absurd (omega (arith, ints))
cut_below n (negsuc k) p =
    let e : 1 * 10 ^ (k + 1) ≡ 10 ^ suc k = rw add-one (omega arith) in
    ap (λ d. n / d) e
