-- The text of a number in a formula is ASCII.
use Rattle.std.proofs.Common.{ℕ, ◌+◌, ◌<◌, List, [], ◌∷◌, ◌++◌, take, drop, arith}
use Rattle.std.specs.Prelude.{Bool, true, false, ℤ, pos, negsuc, ◌-◌, length, codes, if◌then◌else◌, ◌==◌, nat_lt, nat_le}
use Rattle.std.specs.Fmt.{decimal}
use Rattle.std.specs.Str.{IsAscii}
use Rattle.std.proofs.lemmas.List.Elements.{All-replicate}
use Rattle.std.proofs.lemmas.Str.{IsAscii-append, IsAscii-take, IsAscii-drop}
use Rattle.std.proofs.lemmas.Str.Ascii.{IsAscii-nil, IsAscii-cons, IsAscii-from_all}
use Rattle.xls_bytes.specs.Doubles.{exponent_of}
use Rattle.xls_rounding.specs.declared.decimals.Decimal.{Decimal}
use Rattle.xls_rounding.specs.Rounding.{decimal_of, magnitude_of}
use Rattle.xls_rounding.specs.FormulaNumbers.{before, without_zeros, zeros, with_point, two_digits, scientific, digits_text, decimal_text}
use Rattle.xls_rounding.specs.FormulaNumbers.{in_formula, sign_of, formula_number}
use Rattle.xls_formula.proofs.TextLemmas.{either_ascii, decimal_ascii}

one_ascii : (c : ℕ) → c < 128 → IsAscii (c ∷ [])
one_ascii c low = IsAscii-cons c [] low IsAscii-nil

-- the first of these, before others
first_ascii : (d : ℕ) (ds es : List ℕ) → IsAscii (d ∷ ds) → IsAscii es → IsAscii (d ∷ es)
first_ascii d ds es all rest = IsAscii-append (d ∷ []) es (IsAscii-take (d ∷ ds) 1 all) rest

before_ascii : (d : ℕ) (ds es : List ℕ) → IsAscii (d ∷ ds) → IsAscii es → IsAscii (before d es)
before_ascii d ds [] all rest = either_ascii (d == 48) [] (d ∷ []) IsAscii-nil (first_ascii d ds [] all IsAscii-nil)
before_ascii d ds (e ∷ es) all rest = first_ascii d ds (e ∷ es) all rest

without_zeros_ascii : (ds : List ℕ) → IsAscii ds → IsAscii (without_zeros ds)
without_zeros_ascii [] all = all
without_zeros_ascii (d ∷ ds) all = before_ascii d ds (without_zeros ds) all (without_zeros_ascii ds (IsAscii-drop (d ∷ ds) 1 all))

zeros_ascii : (n : ℕ) → IsAscii (zeros n)
zeros_ascii n = IsAscii-from_all (zeros n) (All-replicate (λ b. b < 128) n 48 (omega arith))

point_ascii : (whole ds : List ℕ) → IsAscii whole → IsAscii ds → IsAscii (with_point whole ds)
point_ascii whole [] w d = w
point_ascii whole (d ∷ ds) w all = IsAscii-append whole (codes "." ++ d ∷ ds) w (IsAscii-cons 46 (d ∷ ds) (omega arith) all)

two_ascii : (n : ℕ) → IsAscii (two_digits n)
two_ascii n = either_ascii (nat_lt n 10) (codes "0"
    ++ decimal n) (decimal n) (IsAscii-cons 48 (decimal n) (omega arith) (decimal_ascii n)) (decimal_ascii n)

scientific_ascii : (ds sign : List ℕ) (n : ℕ) → IsAscii ds → IsAscii sign → IsAscii (scientific ds sign n)
scientific_ascii ds sign n all s =
    IsAscii-append (with_point (take 1 ds) (drop 1 ds)) (codes "E" ++ (sign ++ two_digits n))
    (point_ascii (take 1 ds) (drop 1 ds) (IsAscii-take ds 1 all) (IsAscii-drop ds 1 all))
    (IsAscii-cons 69 (sign ++ two_digits n) (omega arith) (IsAscii-append sign (two_digits n) s (two_ascii n)))

digits_ascii : (ds : List ℕ) (e : ℤ) → IsAscii ds → IsAscii (digits_text ds e)
digits_ascii ds (pos n) all =
    either_ascii (nat_lt 19 n) (scientific ds (codes "+") n) (with_point (take (n + 1) ds ++ zeros (n + 1 - length ds)) (drop (n + 1) ds))
    (scientific_ascii ds (codes "+") n all (one_ascii 43 (omega arith)))
    (point_ascii (take (n + 1) ds ++ zeros (n + 1 - length ds)) (drop (n + 1) ds)
    (IsAscii-append (take (n + 1) ds) (zeros (n + 1 - length ds)) (IsAscii-take ds (n + 1) all) (zeros_ascii (n + 1 - length ds)))
    (IsAscii-drop ds (n + 1) all))
digits_ascii ds (negsuc n) all =
    either_ascii (nat_le (n + 2 + length ds) 20) (codes "0." ++ (zeros n ++ ds)) (scientific ds (codes "-") (n + 1))
    (IsAscii-cons 48 (46 ∷ (zeros n ++ ds)) (omega arith) (IsAscii-cons 46 (zeros n
    ++ ds) (omega arith) (IsAscii-append (zeros n) ds (zeros_ascii n) all)))
    (scientific_ascii ds (codes "-") (n + 1) all (one_ascii 45 (omega arith)))

sign_ascii : (negative : Bool) → IsAscii (if negative then codes "-" else [])
sign_ascii true = one_ascii 45 (omega arith)
sign_ascii false = IsAscii-nil

nonzero_ascii : (d : Decimal) → IsAscii (decimal_text d)
nonzero_ascii d = digits_ascii (without_zeros (decimal d.digits)) (magnitude_of d) (without_zeros_ascii (decimal d.digits)
    (decimal_ascii d.digits))

pub formula_ascii : (bits : ℕ) → IsAscii (formula_number bits)
formula_ascii bits =
    IsAscii-append (sign_of bits) (if exponent_of bits == 0 then codes "0" else decimal_text (in_formula (decimal_of bits)))
    (sign_ascii _)
    (either_ascii (exponent_of bits == 0) (codes "0") (decimal_text (in_formula (decimal_of bits))) (one_ascii 48 (omega arith))
    (nonzero_ascii (in_formula (decimal_of bits))))
