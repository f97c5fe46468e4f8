use Rattle.std.proofs.Common.{◌≡◌, ℕ, ◌+◌, ◌*◌, ◌<◌, ◌≤◌, arith}
use Rattle.std.proofs.Math.Nat.{div-mul-le_self, lt-div-mul-add, div-eq_of_lt-le}
use Rattle.xls_rounding.specs.Fractions.{Fraction, nearest, IsNearest}
use Rattle.xls_rounding.proofs.laws.halves_up.Goals as goal

is_nearest : (x : Fraction) (n : ℕ) → 0 < x.denominator → nearest x ≡ n → IsNearest n x
is_nearest x n p e =
    let sum = 2 * x.numerator + x.denominator in
    let two = 2 * x.denominator in
    let low : n * two ≤ sum = rw (← e) (div-mul-le_self sum two) in
    let high : sum < n * two + two = rw (← e) (lt-div-mul-add (omega arith)) in
    (omega arith, omega arith)

nearest_is : (x : Fraction) (n : ℕ) → 0 < x.denominator → IsNearest n x → nearest x ≡ n
nearest_is x n p h =
    let low : n * (2 * x.denominator) ≤ 2 * x.numerator + x.denominator = omega arith in
    let high : 2 * x.numerator + x.denominator < (n + 1) * (2 * x.denominator) = omega arith in
    div-eq_of_lt-le {k = n} (2 * x.denominator) {m = 2 * x.numerator + x.denominator} low high

pub returns : goal.returns
returns c = λ x n p. (is_nearest x n p, nearest_is x n p)
