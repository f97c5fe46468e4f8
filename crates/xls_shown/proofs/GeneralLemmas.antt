-- The text of a number under `General` is ASCII.
use Rattle.std.proofs.Common.{ℕ, zero, suc, ◌+◌, ◌-◌, ◌/◌, ◌%◌, ◌^◌, ◌<◌, Bool, true, false, ◌==◌, if◌then◌else◌, List, [], ◌∷◌, ◌++◌, take, drop, arith, codes}
use Rattle.std.specs.Prelude.{ℤ, pos, negsuc, ◌&&◌, ◌||◌, not, nat_lt}
use Rattle.std.specs.Fmt.{decimal, digits, digits_onto, digit_glyph}
use Rattle.std.specs.Str.{IsAscii}
use Rattle.std.proofs.lemmas.Bool.Decides.{nat_tests}
use Rattle.std.proofs.lemmas.Str.{IsAscii-append, IsAscii-take, IsAscii-drop}
use Rattle.std.proofs.lemmas.Str.Ascii.{IsAscii-nil, IsAscii-cons}
use Rattle.xls_rounding.specs.declared.decimals.Decimal.{Decimal}
use Rattle.xls_rounding.specs.Rounding.{rounded_at, magnitude_of}
use Rattle.xls_rounding.specs.FormulaNumbers.{before, without_zeros, with_point, two_digits, scientific}
use Rattle.xls_shown_numbers.specs.Digits.{last_digits}
use Rattle.xls_shown_numbers.specs.General.{fixed, with_power, exponent_form, is_exact_enough, general_at, general}

glyph_ascii : (upper : Bool) (d : ℕ) → d < 16 → digit_glyph upper d < 128
glyph_ascii false d lt = grind (arith, nat_tests)
glyph_ascii true d lt = grind (arith, nat_tests)

either_ascii : (b : Bool) (xs ys : List ℕ) → IsAscii xs → IsAscii ys → IsAscii (if b then xs else ys)
either_ascii true xs ys a b = a
either_ascii false xs ys a b = b

onto_ascii : (base : ℕ) (upper : Bool) → ((n : ℕ) → n % base < 16) → (k n : ℕ) (acc : List ℕ) → IsAscii acc → IsAscii (digits_onto k base upper n acc)
onto_ascii base upper small zero n acc a = a
onto_ascii base upper small (suc k) n acc a =
    let more : IsAscii (digit_glyph upper (n % base) ∷ acc) = IsAscii-cons (digit_glyph upper (n % base)) acc (glyph_ascii upper (n % base) (small n)) a in
    either_ascii (n / base == 0) (digit_glyph upper (n % base) ∷ acc) (digits_onto k base upper (n / base) (digit_glyph upper (n % base) ∷ acc)) more
    (onto_ascii base upper small k (n / base) (digit_glyph upper (n % base) ∷ acc) more)

decimal_ascii : (n : ℕ) → IsAscii (decimal n)
unfolding digits
decimal_ascii n = onto_ascii 10 false (λ m. omega arith) 64 n [] IsAscii-nil

first_ascii : (d : ℕ) (ds es : List ℕ) → IsAscii (d ∷ ds) → IsAscii es → IsAscii (d ∷ es)
first_ascii d ds es all rest = IsAscii-append (d ∷ []) es (IsAscii-take (d ∷ ds) 1 all) rest

before_ascii : (d : ℕ) (ds es : List ℕ) → IsAscii (d ∷ ds) → IsAscii es → IsAscii (before d es)
before_ascii d ds [] all rest = either_ascii (d == 48) [] (d ∷ []) IsAscii-nil (first_ascii d ds [] all IsAscii-nil)
before_ascii d ds (e ∷ es) all rest = first_ascii d ds (e ∷ es) all rest

without_zeros_ascii : (ds : List ℕ) → IsAscii ds → IsAscii (without_zeros ds)
without_zeros_ascii [] all = all
without_zeros_ascii (d ∷ ds) all = before_ascii d ds (without_zeros ds) all (without_zeros_ascii ds (IsAscii-drop (d ∷ ds) 1 all))

point_ascii : (whole ds : List ℕ) → IsAscii whole → IsAscii ds → IsAscii (with_point whole ds)
point_ascii whole [] w d = w
point_ascii whole (d ∷ ds) w all = IsAscii-append whole (codes "." ++ d ∷ ds) w (IsAscii-cons 46 (d ∷ ds) (omega arith) all)

two_ascii : (n : ℕ) → IsAscii (two_digits n)
two_ascii n = either_ascii (nat_lt n 10) (codes "0" ++ decimal n) (decimal n) (IsAscii-cons 48 (decimal n) (omega arith) (decimal_ascii n)) (decimal_ascii n)

scientific_ascii : (ds sign : List ℕ) (n : ℕ) → IsAscii ds → IsAscii sign → IsAscii (scientific ds sign n)
scientific_ascii ds sign n all s =
    IsAscii-append (with_point (take 1 ds) (drop 1 ds)) (codes "E" ++ (sign ++ two_digits n))
    (point_ascii (take 1 ds) (drop 1 ds) (IsAscii-take ds 1 all) (IsAscii-drop ds 1 all))
    (IsAscii-cons 69 (sign ++ two_digits n) (omega arith) (IsAscii-append sign (two_digits n) s (two_ascii n)))

last_ascii : (p n : ℕ) → IsAscii (last_digits p n)
unfolding last_digits
last_ascii zero n = IsAscii-nil
last_ascii (suc p) n = IsAscii-append (last_digits p (n / 10)) ((48 + n % 10) ∷ []) (last_ascii p (n / 10)) (IsAscii-cons (48 + n % 10) [] (omega arith) IsAscii-nil)

fixed_ascii : (n p : ℕ) → IsAscii (fixed n p)
fixed_ascii n p = point_ascii _ _ (decimal_ascii _) (without_zeros_ascii _ (last_ascii p n))

power_ascii : (ds : List ℕ) (k : ℤ) → IsAscii ds → IsAscii (with_power ds k)
power_ascii ds (pos n) all = scientific_ascii ds (codes "+") n all (IsAscii-cons 43 [] (omega arith) IsAscii-nil)
power_ascii ds (negsuc n) all = scientific_ascii ds (codes "-") (n + 1) all (IsAscii-cons 45 [] (omega arith) IsAscii-nil)

exponent_ascii : (d : Decimal) (k : ℤ) → IsAscii (exponent_form d k)
exponent_ascii d k = power_ascii _ _ (without_zeros_ascii _ (decimal_ascii _))

at_ascii : (d : Decimal) (k : ℤ) → IsAscii (general_at d k)
at_ascii d (pos k) = either_ascii (nat_lt k 10 || ((k == 10) && not (rounded_at d (pos 0) == 10 ^ 11))) _ _ (fixed_ascii _ (9 - k)) (exponent_ascii d (pos k))
at_ascii d (negsuc k) = either_ascii (nat_lt k 4 || is_exact_enough d (negsuc k)) _ _ (fixed_ascii _ 9) (exponent_ascii d (negsuc k))

pub general_ascii : (d : Decimal) → IsAscii (general d)
general_ascii d = either_ascii (d.digits == 0) (codes "0") _ (IsAscii-cons 48 [] (omega arith) IsAscii-nil) (at_ascii d (magnitude_of d))
