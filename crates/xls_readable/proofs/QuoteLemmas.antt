-- The field of a number calls for no quotes where the delimiter is below all bytes of numbers, as a comma and a tab are.
use Rattle.std.proofs.Common.{◌≡◌, ℕ, zero, suc, ◌-◌, ◌/◌, ◌%◌, ◌^◌, ◌<◌, ◌≤◌, ℤ, pos, negsuc, unsigned_abs, Bool, true, false, Option, Some, None, List, [], ◌∷◌, ◌++◌, length, codes, replicate, refl, ◌∙◌, arith}
use Rattle.std.specs.Prelude.{◌==◌, MatchOption, MatchBool, if◌then◌else◌, to_bits}
use Rattle.std.specs.Fmt.{decimal, digit_glyph, digits, digits_onto, sign_text, signed_decimal}
use Rattle.std.specs.List.{list_any}
use Rattle.std.specs.Float.{binary64, float_is_finite}
use Rattle.std.specs.Float.Numeral.{exponent_text, text_of}
use Rattle.std.specs.Str.Parse.{AllDigits}
use Rattle.std.proofs.lemmas.Bool.Decides.{nat_tests}
use Rattle.std.proofs.lemmas.List.Folds.{list_any-append}
use Rattle.std.proofs.lemmas.Str.Parse.{digit_from_value}
use Rattle.ryu.specs.Plain.{IsLaidOutNumber}
use Rattle.xls_bytes.specs.Doubles.{exponent_of, whole_of}
use Rattle.xls_dates.specs.Numbers.{decimals_text, hundredths_text, minus_if_negative, sixteen_digits}
use Rattle.xls_dates.specs.declared.numbers.Number.{Number}
use Rattle.xls_dates.specs.declared.numbers.Number.TheVariants.{Bits, Whole, Hundredths, BitsOver100}
use Rattle.xls_decimals.specs.Decimals.{IsDecimal, IsDouble, IsFraction, decimal_of_bits, over_100, short_whole_of, whole_or_bits_text}
use Rattle.xls_readable.specs.Csv.{csv_field, is_marked}

module _ (d : ℕ) (low : d < 0x2D) where
  -- no byte of a text puts it into quotes
  abbrev IsBare : List ℕ → Type 0
  IsBare text = list_any (is_marked d) text ≡ false

  unmarked : (b : ℕ) → 0x2D ≤ b → is_marked d b ≡ false
  unmarked b l = grind (arith, nat_tests, low)

  bare-cons : (b : ℕ) (text : List ℕ) → 0x2D ≤ b → IsBare text → IsBare (b ∷ text)
  bare-cons b text l bare = rw (unmarked b l) bare

  bare-append : (a b : List ℕ) → IsBare a → IsBare b → IsBare (a ++ b)
  bare-append a b p q = list_any-append (is_marked d) a b ∙ rw (p, q) refl

  bare-if : (t : Bool) (a b : List ℕ) → IsBare a → IsBare b → IsBare (if t then a else b)
  bare-if true a b p q = p
  bare-if false a b p q = q

  -- ---- digits

  glyph_high : (n : ℕ) → 0x2D ≤ digit_glyph false n
  glyph_high n = grind (arith, nat_tests)

  bare-digits_onto : (k base n : ℕ) (text : List ℕ) → IsBare text → IsBare (digits_onto k base false n text)
  bare-digits_onto zero base n text bare = bare
  bare-digits_onto (suc k) base n text bare =
      let glyph = digit_glyph false (n % base) in
      let one : IsBare (glyph ∷ text) = bare-cons glyph text (glyph_high (n % base)) bare in
      bare-if (n / base == 0) (glyph ∷ text) (digits_onto k base false (n / base) (glyph ∷ text)) one
      (bare-digits_onto k base (n / base) (glyph ∷ text) one)

  bare_digits : (base n : ℕ) → IsBare (digits base false n)
  unfolding digits
  bare_digits base n = bare-digits_onto 64 base n [] refl

  bare_signed : (n : ℤ) → IsBare (signed_decimal n)
  bare_signed (pos n) = bare_digits 10 n
  bare_signed (negsuc n) = bare-cons 45 (decimal (suc n)) (omega arith) (bare_digits 10 (suc n))

  bare_zeros : (k : ℕ) → IsBare (replicate k 48)
  bare_zeros zero = refl
  bare_zeros (suc k) = bare-cons 48 (replicate k 48) (omega arith) (bare_zeros k)

  bare_sixteen : (bits : ℕ) → IsBare (sixteen_digits bits)
  unfolding sixteen_digits
  bare_sixteen bits =
      let zeros = 16 - length (digits 16 false bits) in
      bare-append (replicate zeros 48) (digits 16 false bits) (bare_zeros zeros) (bare_digits 16 bits)

  bare_bits : (bits : ℕ) → IsBare (decimal_of_bits bits)
  bare_bits bits =
      let text = sixteen_digits bits in
      bare-cons 48 (120 ∷ text) (omega arith) (bare-cons 120 text (omega arith) (bare_sixteen bits))

  over_hundred : IsBare (codes "/100")
  over_hundred =
      bare-cons 47 (codes "100") (omega arith) (bare-cons 49 (codes "00") (omega arith)
      (bare-cons 48 (codes "0") (omega arith) (bare-cons 48 [] (omega arith) refl)))

  minus_zero : IsBare (codes "-0")
  minus_zero = bare-cons 45 (codes "0") (omega arith) (bare-cons 48 [] (omega arith) refl)

  -- ---- hundredths

  bare_decimals : (n : ℕ) → IsBare (decimals_text n)
  bare_decimals n =
      let first = decimal (n / 10) in
      let last : List ℕ = if n % 10 == 0 then [] else decimal (n % 10) in
      bare-if (n == 0) [] (46 ∷ (first ++ last)) refl
      (bare-cons 46 (first ++ last) (omega arith)
      (bare-append first last (bare_digits 10 (n / 10)) (bare-if (n % 10 == 0) [] (decimal (n % 10)) refl (bare_digits 10 (n % 10)))))

  bare_minus : (n : ℤ) → IsBare (minus_if_negative n)
  bare_minus (pos n) = refl
  bare_minus (negsuc n) = bare-cons 45 [] (omega arith) refl

  bare_hundredths : (n : ℤ) → IsBare (hundredths_text n)
  bare_hundredths n =
      let whole = decimal (unsigned_abs n / 100) in
      let decimals = decimals_text (unsigned_abs n % 100) in
      bare-append (minus_if_negative n) (whole ++ decimals) (bare_minus n)
      (bare-append whole decimals (bare_digits 10 (unsigned_abs n / 100)) (bare_decimals (unsigned_abs n % 100)))

  -- ---- fractions

  bare_all : (ds : List ℕ) → AllDigits 10 ds → IsBare ds
  bare_all [] all = refl
  bare_all (c ∷ cs) all = let digit = digit_from_value c all.0 in bare-cons c cs (omega (arith, digit)) (bare_all cs all.1)

  bare_sign : (negative : Bool) → IsBare (sign_text negative)
  bare_sign true = bare-cons 45 [] (omega arith) refl
  bare_sign false = refl

  bare_exponent : (negative : Bool) (exponent : List ℕ) → AllDigits 10 exponent → IsBare (exponent_text negative exponent)
  bare_exponent negative [] all = refl
  bare_exponent negative (e ∷ es) all =
      bare-cons 101 (sign_text negative ++ e ∷ es) (omega arith)
      (bare-append (sign_text negative) (e ∷ es) (bare_sign negative) (bare_all (e ∷ es) all))

  bare_fraction : (text : List ℕ) → IsLaidOutNumber 16 4 text → IsBare text
  bare_fraction text (negative, size, whole, (p, spelled, plain, laid)) =
      let of = plain.well_formed in
      let point : List ℕ = if p.point then 46 ∷ p.fraction else [] in
      let exponent = exponent_text p.exponent_negative p.exponent in
      rw (whole, spelled)
      (bare-append (sign_text negative) (text_of p) (bare_sign negative)
      (bare-append p.whole (point ++ exponent) (bare_all p.whole of.whole_digits)
      (bare-append point exponent
      (bare-if p.point (46 ∷ p.fraction) [] (bare-cons 46 p.fraction (omega arith) (bare_all p.fraction of.fraction_digits)) refl)
      (bare_exponent p.exponent_negative p.exponent of.exponent_digits))))

  -- ---- numbers

  bare_text : (fixed text : List ℕ) → text ≡ fixed → IsBare fixed → IsBare text
  bare_text fixed text e bare = rw e bare

  unless_finite : (t : Bool) (bits : ℕ) (text : List ℕ)
      → MatchOption (if t then Some (decimal_of_bits bits) else None) (IsFraction bits text) (λ fixed. text ≡ fixed) → IsBare text
  unless_finite true bits text e = bare_text (decimal_of_bits bits) text e (bare_bits bits)
  unless_finite false bits text e = bare_fraction text e.layout

  unless_whole : (n : Option ℤ) (bits : ℕ) (text : List ℕ)
      → MatchOption (whole_or_bits_text n bits) (IsFraction bits text) (λ fixed. text ≡ fixed) → IsBare text
  unless_whole (Some n) bits text e = bare_text (signed_decimal n) text e (bare_signed n)
  unless_whole None bits text e = unless_finite (exponent_of bits == 2047) bits text e

  unless_zero : (t : Bool) (bits : ℕ) (text : List ℕ)
      → MatchOption (if t then Some (codes "-0") else whole_or_bits_text (short_whole_of bits) bits) (IsFraction bits text) (λ fixed. text ≡ fixed)
      → IsBare text
  unless_zero true bits text e = bare_text (codes "-0") text e minus_zero
  unless_zero false bits text e = unless_whole (short_whole_of bits) bits text e

  bare_double : (bits : ℕ) (text : List ℕ) → IsDouble bits text → IsBare text
  bare_double bits text is = unless_zero (bits == 2 ^ 63) bits text is

  -- the quotient by 100, or the bits of one that isn't finite
  abbrev IsQuotient : Bool → ℕ → List ℕ → Type 0
  IsQuotient t bits text = MatchBool t (IsDouble (to_bits binary64 (over_100 bits)) text) (text ≡ decimal_of_bits bits ++ codes "/100")

  quotient : (t : Bool) (bits : ℕ) (text : List ℕ) → IsQuotient t bits text → IsBare text
  quotient true bits text e = bare_double (to_bits binary64 (over_100 bits)) text e
  quotient false bits text e =
      bare_text (decimal_of_bits bits ++ codes "/100") text e (bare-append (decimal_of_bits bits) (codes "/100") (bare_bits bits) over_hundred)

  unless_hundredths : (n : Option ℤ) (bits : ℕ) (text : List ℕ)
      → MatchOption n (IsQuotient (float_is_finite (over_100 bits)) bits text) (λ n. text ≡ hundredths_text n) → IsBare text
  unless_hundredths (Some n) bits text e = bare_text (hundredths_text n) text e (bare_hundredths n)
  unless_hundredths None bits text e = quotient (float_is_finite (over_100 bits)) bits text e

  unless_zero_over_100 : (t : Bool) (bits : ℕ) (text : List ℕ)
      → MatchBool t (text ≡ codes "-0") (MatchOption (whole_of bits) (IsQuotient (float_is_finite (over_100 bits)) bits text) (λ n. text ≡ hundredths_text n))
      → IsBare text
  unless_zero_over_100 true bits text e = bare_text (codes "-0") text e minus_zero
  unless_zero_over_100 false bits text e = unless_hundredths (whole_of bits) bits text e

  bare_number : (n : Number) (text : List ℕ) → IsDecimal n text → IsBare text
  bare_number (Bits bits) text is = bare_double bits text is
  bare_number (Whole n) text is = bare_text (signed_decimal n) text is (bare_signed n)
  bare_number (Hundredths n) text is = bare_text (hundredths_text n) text is (bare_hundredths n)
  bare_number (BitsOver100 bits) text is = unless_zero_over_100 (bits == 2 ^ 63) bits text is

  -- the text of a number is its own field
  pub whole_field : (n : ℤ) → signed_decimal n ≡ csv_field d (signed_decimal n)
  whole_field n = rw (bare_signed n) refl

  pub number_field : (n : Number) (text : List ℕ) → IsDecimal n text → text ≡ csv_field d text
  number_field n text is = rw (bare_number n text is) refl
