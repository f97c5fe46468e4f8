-- Naturals over powers of ten, rounded, halves up.
use Rattle.std.proofs.Common.{add-one, inl, inr, ◌≡◌, ℕ, zero, suc, ◌+◌, ◌-◌, ◌*◌, ◌/◌, ◌%◌, ◌^◌, ◌<◌, ◌≤◌, refl, arith, lit<}
use Rattle.std.specs.Prelude.{ℤ, pos, negsuc, ◌≤ℤ◌}
use Rattle.std.proofs.lemmas.Int.{ints}
use Rattle.std.proofs.lemmas.Bool.{cases_eq}
use Rattle.xls_rounding.specs.Fractions.{places, places_up_to}
use Rattle.xls_rounding.specs.Rounding.{rounded}
use Rattle.std.proofs.lemmas.Nat.{mul-le, div-mul-add, div-add-mod'}
use Rattle.std.proofs.Math.Nat.{one-le-pow, pow-le-pow_right, pow-suc, div-eq_of_lt, mod-lt}

pub ten_pos : (k : ℕ) → 0 < 10 ^ k
ten_pos k = one-le-pow k 10 (lit< tt)

pub ten_le : (j k : ℕ) → j ≤ k → 10 ^ j ≤ 10 ^ k
ten_le j k p = pow-le-pow_right {n = 10} (lit< tt) p

-- 10 ^ s is even
pub ten_even : (s : ℕ) → 0 < s → 10 ^ s / 2 + 10 ^ s / 2 ≡ 10 ^ s
ten_even zero p = absurd (omega arith)
ten_even (suc t) p =
    let e : 10 ^ suc t ≡ 10 ^ t * 10 = pow-suc 10 t in
    rw e (omega arith)

pub over_none : (n step : ℕ) → 2 * n < step → (2 * n + step) / (2 * step) ≡ 0
over_none n step p = div-eq_of_lt (omega arith)

-- the quotient of 2 * n + step, for a rest below half of the step
pub over_below : (n step : ℕ) → 0 < step → 2 * (n % step) < step → (2 * n + step) / (2 * step) ≡ n / step
over_below n step s p =
    let parts : n / step * step + n % step ≡ n = div-add-mod' n step in
    let e : 2 * n + step ≡ n / step * (2 * step) + (2 * (n % step) + step) = omega arith in
    rw e (div-mul-add (n / step) (2 * step) (2 * (n % step) + step) (omega arith))

pub over_above : (n step : ℕ) → 0 < step → step ≤ 2 * (n % step) → (2 * n + step) / (2 * step) ≡ n / step + 1
over_above n step s p =
    let parts : n / step * step + n % step ≡ n = div-add-mod' n step in
    let low : n % step < step = mod-lt n s in
    let e : 2 * n + step ≡ (n / step + 1) * (2 * step) + (2 * (n % step) - step) = omega arith in
    rw e (div-mul-add (n / step + 1) (2 * step) (2 * (n % step) - step) (omega arith))

-- nothing is rounded away
pub rounded_up : (n k : ℕ) → rounded n (pos k) ≡ n * 10 ^ k
rounded_up n k = omega arith

pub rounded_down : (n k : ℕ) → rounded n (negsuc k) ≡ (2 * n + 10 ^ (k + 1)) / (2 * 10 ^ (k + 1))
rounded_down n k = let one : 1 * 10 ^ (k + 1) ≡ 10 ^ (k + 1) = omega arith in rw one

pub far_up : (n z : ℕ) → 0 < n → 19 < z → 2 ^ 64 ≤ n * 10 ^ z
far_up n z p q = let most : 1 * 10 ^ 20 ≤ n * 10 ^ z = mul-le 1 (10 ^ 20) n (10 ^ z) p (ten_le 20 z q) in omega arith

more_up : (n z : ℕ) → 2 ^ 64 ≤ n → 2 ^ 64 ≤ n * 10 ^ z
more_up n z p = let most : 2 ^ 64 * 1 ≤ n * 10 ^ z = mul-le (2 ^ 64) 1 n (10 ^ z) p (ten_pos z) in omega arith

-- what does not fit before doesn't behind
pub more_by : (n : ℕ) (z : ℤ) → pos 0 ≤ℤ z → 2 ^ 64 ≤ n → 2 ^ 64 ≤ rounded n z
more_by n (pos k) p q = rw (rounded_up n k) (more_up n k q)
more_by n (negsuc k) p q = absurd (omega (arith, ints))

-- ---- the number of digits

pub places_none : (f : ℕ) → places_up_to f 0 ≡ 0
unfolding places_up_to
places_none zero = refl
places_none (suc f) = refl

pub places_more : (f n : ℕ) → 0 < n → places_up_to (f + 1) n ≡ places_up_to f (n / 10) + 1
unfolding places_up_to
places_more f zero p = absurd (omega arith)
places_more f (suc n) p = rw (add-one, add-one)

-- 10 ^ j <= n < 10 ^ (j + 1)
pub places_between : (j f n : ℕ) → j < f → 10 ^ j ≤ n → n < 10 ^ (j + 1) → places_up_to f n ≡ j + 1
places_between zero f n p q r =
    let e : f ≡ (f - 1) + 1 = omega arith in
    let none : n / 10 ≡ 0 = omega arith in
    let some : 0 < n = omega arith in
    rw e (rw (places_more (f - 1) n some, none, places_none))
places_between (suc j) f n p q r =
    let e : f ≡ (f - 1) + 1 = omega arith in
    let some : 0 < n = omega (arith, ten_pos (suc j)) in
    let up : 10 ^ suc j ≡ 10 ^ j * 10 = pow-suc 10 j in
    let up2 : 10 ^ (suc j + 1) ≡ 10 ^ suc j * 10 = rw add-one (pow-suc 10 (suc j)) in
    let same : 10 ^ (j + 1) ≡ 10 ^ suc j = rw add-one in
    let low : 10 ^ j ≤ n / 10 = omega arith in
    let high : n / 10 < 10 ^ (j + 1) = omega arith in
    rw e (rw (places_more (f - 1) n some) (omega (arith, places_between j (f - 1) (n / 10) (omega arith) low high)))

pub places_is : (j n : ℕ) → j < 640 → 10 ^ j ≤ n → n < 10 ^ (j + 1) → places n ≡ j + 1
unfolding places
places_is j n p q r = places_between j 640 n p q r

-- a step and the end of a count of digits
pub count_more : (count rest all : ℕ) → count ≤ 20 → rest < 10 ^ (20 - count) → places_up_to (640 - count) rest + count ≡ all → 0 < rest
    → (count + 1 ≤ 20) × (rest / 10 < 10 ^ (20 - (count + 1))) × (places_up_to (640 - (count + 1)) (rest / 10) + (count + 1) ≡ all)
count_more count rest all p q r s =
    let less : count < 20 = elim (cases_eq count 20) [
      | inl e ↦ let high = rw e at q in absurd (omega arith)
      | inr other ↦ omega arith
    ] in
    let left : 20 - count ≡ suc (20 - (count + 1)) = omega arith in
    let high : rest < 10 ^ (20 - (count + 1)) * 10 = rw (← pow-suc 10 (20 - (count + 1)), ← left) q in
    let fuel : 640 - count ≡ (640 - (count + 1)) + 1 = omega arith in
    let more = rw (fuel, places_more (640 - (count + 1)) rest s) at r in
    (omega arith, omega arith, omega arith)

pub count_all : (count all : ℕ) → places_up_to (640 - count) 0 + count ≡ all → count ≡ all
count_all count all r = let e = rw (places_none (640 - count)) at r in omega arith
