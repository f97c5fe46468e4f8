-- Sixteen digits in hexadecimal, put before a text one after the other.
use Rattle.std.proofs.Common.{◌≡◌, ℕ, zero, suc, ◌+◌, ◌-◌, ◌*◌, ◌/◌, ◌%◌, ◌^◌, ◌<◌, ◌≤◌, refl, ap, ◌∙◌, arith, Bool, true, false, ◌&&◌, T, eqb, eqb→eq, eq-zero-or-pos, get_or, List, [], ◌∷◌, ◌++◌, length, replicate, inl, inr, ◌==◌}
use Rattle.std.specs.Fmt.{digit_glyph, digits, digits_onto}
use Rattle.std.proofs.lemmas.Bool.{cases_lt}
use Rattle.std.proofs.lemmas.Bool.Decides.{nat_tests}
use lib.Ieee.Fits.{and_l, and_r}
use Rattle.xls_dates.specs.Numbers.{sixteen_digits}
use Rattle.xls_lines.specs.declared.short.TheConstants.{HEX_DIGITS}

-- ---- the table of the digits

abbrev are_digits : ℕ → Bool
are_digits zero = true
are_digits (suc n) = eqb (get_or HEX_DIGITS n 0) (digit_glyph false n) && are_digits n

digit_below : (n d : ℕ) → T (are_digits n) → d < n → get_or HEX_DIGITS d 0 ≡ digit_glyph false d
digit_below zero d t h = absurd (omega arith)
digit_below (suc n) d t h =
    elim (eq-zero-or-pos (n - d)) [
      | inl z ↦ let e : d ≡ n = omega arith in rw e (eqb→eq _ _ (and_l _ (are_digits n) t))
      | inr g ↦ digit_below n d (and_r _ (are_digits n) t) (omega arith)
    ]

pub HEX_DIGITS_at : (d : ℕ) → d < 16 → get_or HEX_DIGITS d 0 ≡ digit_glyph false d
HEX_DIGITS_at d h = digit_below 16 d tt h

-- ---- the digits of a number

-- the last k digits of n before a text
pub low : ℕ → ℕ → List ℕ → List ℕ
low zero n text = text
low (suc k) n text = low k (n / 16) (digit_glyph false (n % 16) ∷ text)

pub low-step : (i n : ℕ) (text : List ℕ) → i < 16 → low (16 - i) n text ≡ low (16 - (i + 1)) (n / 16) (digit_glyph false (n % 16) ∷ text)
unfolding low
low-step i n text p =
    let one : 16 - i ≡ suc (16 - (i + 1)) = omega arith in
    ap (λ k. low k n text) one

-- two of them at once
pub low-byte : (i n : ℕ) (text : List ℕ) → i < 8
    → low (16 - 2 * i) n text
    ≡ low (16 - 2 * (i + 1)) (n / 256) (digit_glyph false (n % 256 / 16) ∷ digit_glyph false (n % 256 % 16) ∷ text)
low-byte i n text p =
    let first = low-step (2 * i) n text (omega (arith, p)) in
    let second = low-step (2 * i + 1) (n / 16) (digit_glyph false (n % 16) ∷ text) (omega (arith, p)) in
    let count : 16 - (2 * i + 1 + 1) ≡ 16 - 2 * (i + 1) = omega arith in
    let rest : n / 16 / 16 ≡ n / 256 = omega arith in
    let high : n / 16 % 16 ≡ n % 256 / 16 = omega arith in
    let last : n % 16 ≡ n % 256 % 16 = omega arith in
    first ∙ second
    ∙ ap (λ k. low k (n / 16 / 16) (digit_glyph false (n / 16 % 16) ∷ digit_glyph false (n % 16) ∷ text)) count
    ∙ ap (λ m. low (16 - 2 * (i + 1)) m (digit_glyph false (n / 16 % 16) ∷ digit_glyph false (n % 16) ∷ text)) rest
    ∙ ap (λ d. low (16 - 2 * (i + 1)) (n / 256) (digit_glyph false d ∷ digit_glyph false (n % 16) ∷ text)) high
    ∙ ap (λ d. low (16 - 2 * (i + 1)) (n / 256) (digit_glyph false (n % 256 / 16) ∷ digit_glyph false d ∷ text)) last

pub low-none : (n : ℕ) (text : List ℕ) → low 0 n text ≡ text
unfolding low
low-none n text = refl

low-append : (k n : ℕ) (xs text : List ℕ) → low k n (xs ++ text) ≡ low k n xs ++ text
unfolding low
low-append zero n xs text = refl
low-append (suc k) n xs text = low-append k (n / 16) (digit_glyph false (n % 16) ∷ xs) text

one_more : (k : ℕ) (text : List ℕ) → replicate k 48 ++ (48 ∷ text) ≡ 48 ∷ (replicate k 48 ++ text)
one_more zero text = refl
one_more (suc k) text = ap (λ xs. 48 ∷ xs) (one_more k text)

-- digits of nothing are zeros
low-zero : (k : ℕ) (text : List ℕ) → low k 0 text ≡ replicate k 48 ++ text
unfolding low
low-zero zero text = refl
low-zero (suc k) text = low-zero k (48 ∷ text) ∙ one_more k text

-- they are zeros and the digits without them
Padded : ℕ → ℕ → ℕ → List ℕ → Type 0
Padded k m n text = (zeros : ℕ)
    × (low (suc k) n text ≡ replicate zeros 48 ++ digits_onto (suc m) 16 false n text)
    × (zeros + length (digits_onto (suc m) 16 false n text) ≡ suc k + length text)

last_digit : (k m n : ℕ) (text : List ℕ) → n / 16 ≡ 0 → Padded k m n text
unfolding Padded low
last_digit k m n text e = rw e (k, low-zero k (digit_glyph false (n % 16) ∷ text), omega arith)

padded : (k m n : ℕ) (text : List ℕ) → n < 16 ^ suc k → k ≤ m → Padded k m n text
unfolding Padded low
padded zero m n text p q = last_digit zero m n text (omega (arith, p))
padded (suc k) zero n text p q = absurd (omega (arith, q))
padded (suc k) (suc m) n text p q = elim (cases_lt n 16) [
  | inl few ↦ last_digit (suc k) (suc m) n text (omega (arith, few))
  | inr more ↦
      let smaller : n / 16 < 16 ^ suc k = omega (arith, p) in
      let rest = padded k m (n / 16) (digit_glyph false (n % 16) ∷ text) smaller (omega (arith, q)) in
      let another : (n / 16 == 0) ≡ false = grind (arith, nat_tests) in
      rw another (rest.0, rest.1, omega (arith, rest.2))
]

pub low-sixteen : (n : ℕ) (text : List ℕ) → n < 2 ^ 64 → low 16 n text ≡ sixteen_digits n ++ text
unfolding digits sixteen_digits Padded
low-sixteen n text small =
    let p = padded 15 63 n [] (omega (arith, small)) (omega arith) in
    let zeros : p.0 ≡ 16 - length (digits 16 false n) = omega (arith, p.2) in
    low-append 16 n [] text ∙ ap (λ xs. xs ++ text) (p.1 ∙ ap (λ z. replicate z 48 ++ digits 16 false n) zeros)
