-- The decimal text of a finite number is a number of JSON.
use Rattle.std.proofs.Common.{◌≡◌, ℕ, zero, suc, ◌+◌, ◌*◌, ◌/◌, ◌%◌, ◌^◌, ◌<◌, ℤ, pos, negsuc, unsigned_abs, Bool, true, false, Option, Some, None, List, [], ◌∷◌, ◌++◌, length, append-nil, length-append, get_or, refl, sym, ap, subst, ◌∙◌, arith, inl, inr}
use Rattle.std.specs.Prelude.{◌==◌, IfSome, MatchOption, MatchBool, codes, if◌then◌else◌, decimal, to_bits}
use Rattle.std.specs.Float.{binary64, float_is_finite}
use Rattle.std.specs.Fmt.{sign_text, signed_decimal}
use Rattle.std.specs.Str.Parse.{AllDigits}
use Rattle.std.specs.Float.Numeral.{Parts}
use Rattle.std.proofs.lemmas.Bool.{ne_eqb, true≢false, false≢true, ltb-true}
use Rattle.std.proofs.lemmas.Fmt.{decimal_is_IsNumeral, decimal_digit, first_decimal}
use Rattle.ryu.specs.Plain.{IsPlain, IsLaidOutNumber}
use Rattle.json.specs.Word.{after_number}
use Rattle.json.specs.Print.{IsNumber}
use Rattle.json.proofs.Printed.Decimals.{IsNumber-decimal, IsNumber-signed_decimal}
use Rattle.json.proofs.Printed.Floats.{IsNumber-plain}
use lib.Signed.{mag}
use Rattle.xls_bytes.specs.Doubles.{exponent_of, fraction_of, is_negative, signed, fits_i64, whole_of}
use Rattle.xls_bytes.proofs.WholeLemmas.{whole_of_is, unsigned_abs-signed}
use Rattle.xls_dates.specs.Numbers.{decimals_text, hundredths_text}
use Rattle.xls_dates.specs.declared.numbers.Number.{Number}
use Rattle.xls_dates.specs.declared.numbers.Number.TheVariants.{Bits, Whole, Hundredths, BitsOver100}
use Rattle.xls_decimals.specs.Decimals.{IsDecimal, IsDouble, IsDoubleOver100, IsFraction, decimal_of_bits, first_of, large_whole_of, over_100, short_whole_of, whole_or_bits_text}
use Rattle.xls_readable.specs.Json.{IsBare}
use Rattle.xls_readable.specs.Laws.{IsFiniteNumber, NumbersAreBare}
use Rattle.xls_readable.proofs.QuotientLemmas.{finite_over_100, finite_quotient_bits}

number_of_layout : (text : List ℕ) → IsLaidOutNumber 16 4 text → IsNumber text
number_of_layout text (negative, size, whole, (p, spelled, plain, laid)) =
    IsNumber-plain text (negative, p, whole ∙ ap (λ s. sign_text negative ++ s) spelled, plain)

-- ---- hundredths

all_append : (xs ys : List ℕ) → AllDigits 10 xs → AllDigits 10 ys → AllDigits 10 (xs ++ ys)
all_append [] ys p q = q
all_append (x ∷ xs) ys p q = (p.0, all_append xs ys p.1 q)

all_if : (b : Bool) (ds : List ℕ) → AllDigits 10 ds → AllDigits 10 (if b then [] else ds)
all_if true ds p = tt
all_if false ds p = p

decimal_digits : (n : ℕ) → n < 2 ^ 64 → AllDigits 10 (decimal n)
decimal_digits n p = (decimal_is_IsNumeral n p).0.1

-- no zero stands before another digit
no_zero : (n : ℕ) → n < 2 ^ 64 → get_or (decimal n) 0 0 ≡ 48 → length (decimal n) ≡ 1
no_zero zero p e = ap length (decimal_digit 0 (omega arith))
no_zero (suc n) p e = let first = first_decimal (suc n) (omega arith) p in absurd (omega (arith, e, first))

abbrev decimals_of : ℕ → List ℕ
decimals_of r = decimal (r / 10) ++ (if r % 10 == 0 then [] else decimal (r % 10))

abbrev parts_of : ℕ → ℕ → Parts
parts_of q r = record {
  whole = decimal q;
  point = true;
  fraction = decimals_of r;
  exponent_negative = false;
  exponent = [];
  len = length (decimal q ++ ((46 ∷ decimals_of r) ++ []));
}

parts_plain : (q r : ℕ) → q < 2 ^ 64 → r < 100 → IsPlain (parts_of q r)
parts_plain q r p s =
    let tens = decimal_is_IsNumeral (r / 10) (omega arith) in record {
      well_formed = record {
        whole_digits = decimal_digits q p;
        fraction_digits = all_append (decimal (r / 10)) _ tens.0.1 (all_if (r % 10 == 0) (decimal (r % 10)) (decimal_digits (r % 10) (omega arith)));
        exponent_digits = tt;
        no_point = λ e. absurd (true≢false e);
        no_exponent = λ e. refl;
        len_is = refl;
      };
      whole = (decimal_is_IsNumeral q p).0.0;
      no_leading_zero = no_zero q p;
      fraction = λ e. omega (arith, tens.0.0, length-append (decimal (r / 10)) (if r % 10 == 0 then [] else decimal (r % 10)));
      marked = λ e. absurd (true≢false e);
    }

minus_whole : (q : ℕ) → 0 < q → q < 2 ^ 63 → IsNumber (45 ∷ decimal q)
minus_whole zero some p = absurd (omega arith)
minus_whole (suc q) some p = IsNumber-signed_decimal (negsuc q) (omega arith)

whole_hundreds : (negative : Bool) (q : ℕ) → q < 2 ^ 63 → (negative ≡ true → 0 < q) → IsNumber (sign_text negative ++ (decimal q ++ []))
whole_hundreds false q p some = subst IsNumber (sym (append-nil (decimal q))) (IsNumber-decimal q (omega arith))
whole_hundreds true q p some = subst (λ t. IsNumber (45 ∷ t)) (sym (append-nil (decimal q))) (minus_whole q (some refl) p)

over_hundred : (negative : Bool) (q r : ℕ) → q < 2 ^ 63 → r < 100 → (negative ≡ true → r ≡ 0 → 0 < q)
    → IsNumber (sign_text negative ++ (decimal q ++ decimals_text r))
over_hundred negative q zero p s some = whole_hundreds negative q p (λ e. some e refl)
over_hundred negative q (suc r) p s some =
    let part = suc r in
    rw (ne_eqb part 0 (λ e. omega (arith, e)))
    (IsNumber-plain _ (
      negative,
      parts_of q part,
      ap (λ t. sign_text negative ++ (decimal q ++ t)) (sym (append-nil (46 ∷ decimals_of part))),
      parts_plain q part (omega arith) s,
    ))

pub hundredths_number : (n : ℤ) → unsigned_abs n < 2 ^ 64 → IsNumber (hundredths_text n)
hundredths_number (pos n) p = over_hundred false (n / 100) (n % 100) (omega arith) (omega arith) (λ e. absurd (false≢true e))
hundredths_number (negsuc n) p = over_hundred true (suc n / 100) (suc n % 100) (omega arith) (omega arith) (λ e z. omega (arith, z))

-- ---- doubles

abbrev IsShort : Option ℤ → Type 0
IsShort n = IfSome n (λ z. unsigned_abs z < 2 ^ 63)

short_from : (o : Option ℤ) → ((n : ℤ) → o ≡ Some n → unsigned_abs n < 2 ^ 53) → IsShort o
short_from None h = tt
short_from (Some n) h = omega (arith, h n refl)

first_short : (a b : Option ℤ) → IsShort a → IsShort b → IsShort (first_of a b)
first_short None b p q = q
first_short (Some n) b p q = p

large_short : (test negative : Bool) (f : ℕ) → f < 2 ^ 52 → IsShort (if test then Some (signed negative (2 * (2 ^ 52 + f))) else None)
large_short false negative f p = tt
large_short true negative f p = omega (arith, unsigned_abs-signed negative (2 * (2 ^ 52 + f)))

short_is : (bits : ℕ) → IsShort (short_whole_of bits)
short_is bits =
    first_short (whole_of bits) (large_whole_of bits) (short_from (whole_of bits) (λ n e. ((whole_of_is bits n).0 e).1))
    (large_short _ (is_negative bits) (fraction_of bits) (omega arith))

-- what is shorter than 64 bits in size
short_number : (z : ℤ) → unsigned_abs z < 2 ^ 63 → IsNumber (signed_decimal z)
short_number (pos n) p = IsNumber-signed_decimal (pos n) p
short_number (negsuc n) p = IsNumber-signed_decimal (negsuc n) (omega arith)

minus_zero : IsNumber (codes "-0")
unfolding after_number
minus_zero = refl

fraction_number : (test : Bool) (bits : ℕ) (text : List ℕ) → test ≡ false
    → MatchOption (if test then Some (decimal_of_bits bits) else None) (IsFraction bits text) (λ fixed. text ≡ fixed) → IsNumber text
fraction_number true bits text e h = absurd (true≢false e)
fraction_number false bits text e h = number_of_layout text h.layout

fixed_number : (test : Bool) (whole : Option ℤ) (bits : ℕ) (text : List ℕ) → exponent_of bits < 2047 → IsShort whole
    → MatchOption (if test then Some (codes "-0") else whole_or_bits_text whole bits) (IsFraction bits text) (λ fixed. text ≡ fixed)
    → IsNumber text
fixed_number true whole bits text finite short h = subst IsNumber (sym h) minus_zero
fixed_number false (Some n) bits text finite short h = subst IsNumber (sym h) (short_number n short)
fixed_number false None bits text finite short h =
    fraction_number (exponent_of bits == 2047) bits text (ne_eqb (exponent_of bits) 2047 (λ e. omega (arith, e, finite))) h

double_number : (bits : ℕ) (text : List ℕ) → exponent_of bits < 2047 → IsDouble bits text → IsNumber text
double_number bits text finite h = fixed_number (bits == 2 ^ 63) (short_whole_of bits) bits text finite (short_is bits) h

-- ---- doubles over 100

quotient_number : (test : Bool) (bits : ℕ) (text : List ℕ) (other : Type 0) → test ≡ true → exponent_of bits < 2047
    → MatchBool test (IsDouble bits text) other → IsNumber text
quotient_number true bits text other e finite h = double_number bits text finite h
quotient_number false bits text other e finite h = absurd (false≢true e)

over_number : (test : Bool) (whole : Option ℤ) (bits : ℕ) (text : List ℕ) → exponent_of bits < 2047 → IsShort whole
    → MatchBool test (text ≡ codes "-0") (MatchOption whole
    (MatchBool (float_is_finite (over_100 bits)) (IsDouble (to_bits binary64 (over_100 bits)) text) (text ≡ decimal_of_bits bits ++ codes "/100"))
    (λ n. text ≡ hundredths_text n))
    → IsNumber text
over_number true whole bits text finite short h = subst IsNumber (sym h) minus_zero
over_number false (Some n) bits text finite short h = subst IsNumber (sym h) (hundredths_number n (omega arith))
over_number false None bits text finite short h =
    quotient_number (float_is_finite (over_100 bits)) (to_bits binary64 (over_100 bits)) text _ (finite_over_100 bits finite)
    (finite_quotient_bits bits finite) h

over_100_number : (bits : ℕ) (text : List ℕ) → exponent_of bits < 2047 → IsDoubleOver100 bits text → IsNumber text
over_100_number bits text finite h =
    over_number (bits == 2 ^ 63) (whole_of bits) bits text finite (short_from (whole_of bits) (λ n e. ((whole_of_is bits n).0 e).1)) h

-- ---- numbers

stored_short : (n : ℤ) → fits_i64 n ≡ true → (mag n < 2 ^ 63) × (unsigned_abs n < 2 ^ 64)
stored_short (pos n) e = let p = ltb-true n (2 ^ 63) e in (p, omega (arith, p))
stored_short (negsuc n) e = let p = ltb-true n (2 ^ 63) e in (p, omega (arith, p))

finite_number : (n : Number) (text : List ℕ) → IsFiniteNumber n → IsDecimal n text → IsNumber text
finite_number (Bits bits) text finite h = double_number bits text finite h
finite_number (Whole n) text fits h = subst IsNumber (sym h) (IsNumber-signed_decimal n (stored_short n fits).0)
finite_number (Hundredths n) text fits h = subst IsNumber (sym h) (hundredths_number n (stored_short n fits).1)
finite_number (BitsOver100 bits) text finite h = over_100_number bits text finite h

bare_is : (plain out : List ℕ) → IsNumber plain → IsBare plain out → out ≡ plain
bare_is plain out is (inl h) = h.1
bare_is plain out is (inr h) = absurd (h.0 is)

pub numbers_bare : NumbersAreBare
numbers_bare n out finite displayed =
    let is = finite_number n displayed.0 finite displayed.1 in
    let same = bare_is displayed.0 out is displayed.2 in
    (subst (IsDecimal n) (sym same) displayed.1, subst IsNumber (sym same) is)
