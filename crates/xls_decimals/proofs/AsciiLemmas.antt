-- The texts are ASCII.
use Rattle.std.proofs.Common.{◌≡◌, ℕ, zero, suc, ◌-◌, ◌/◌, ◌%◌, ◌^◌, ◌<◌, List, [], ◌∷◌, ◌++◌, length, replicate, arith, ℤ, pos, negsuc, unsigned_abs, Bool, true, false, subst, sym}
use Rattle.std.specs.Prelude.{◌==◌, codes, nat_lt, if◌then◌else◌}
use Rattle.std.specs.Str.{IsAscii}
use Rattle.std.specs.Fmt.{decimal, digits, digits_onto, digit_glyph}
use Rattle.std.proofs.lemmas.Fmt.{IsAscii-decimal}
use Rattle.std.proofs.lemmas.Str.{IsAscii-append}
use Rattle.std.proofs.lemmas.Str.Ascii.{IsAscii-nil, IsAscii-cons}
use Rattle.std.proofs.lemmas.Bool.Decides.{nat_tests}
use Rattle.xls_dates.specs.Numbers.{sixteen_digits, hundredths_text, decimals_text, minus_if_negative}
use Rattle.xls_decimals.specs.Fractions.{day}
use Rattle.xls_decimals.specs.Decimals.{decimal_of_bits}
use Rattle.xls_lines.specs.Days.{Ymd, date_text, digit, serial_date, two_digits}
use Rattle.xls_decimals.specs.Texts.{fraction_text, minutes_text, clock_text, time_after_day, sign_of, duration_text, moment_text}

-- a text that isn't empty under a test
if_ascii : (b : Bool) (xs ys : List ℕ) → IsAscii xs → IsAscii ys → IsAscii (if b then xs else ys)
if_ascii true xs ys p q = p
if_ascii false xs ys p q = q

digit_ascii : (n : ℕ) → digit n < 128
digit_ascii n = omega arith

two_ascii : (n : ℕ) → IsAscii (two_digits n)
two_ascii n =
    IsAscii-cons (digit (n / 10)) (digit n ∷ []) (digit_ascii (n / 10)) (IsAscii-cons (digit n) []
    (digit_ascii n) IsAscii-nil)

sign_ascii : (b : ℕ) (bs : List ℕ) → b < 128 → IsAscii bs → IsAscii (b ∷ bs)
sign_ascii b bs p q = IsAscii-cons b bs p q

fraction_ascii : (ms : ℕ) → IsAscii (fraction_text ms)
fraction_ascii ms =
    if_ascii (ms == 0) [] _ IsAscii-nil
    (if_ascii (ms % 100 == 0) (46 ∷ digit (ms / 100) ∷ []) _
    (sign_ascii 46 (digit (ms / 100) ∷ []) (omega arith) (sign_ascii (digit (ms / 100)) [] (digit_ascii
    (ms / 100)) IsAscii-nil))
    (if_ascii (ms % 10 == 0) (46 ∷ two_digits (ms / 10)) (46 ∷ digit (ms / 100) ∷ two_digits ms)
    (sign_ascii 46 (two_digits (ms / 10)) (omega arith) (two_ascii (ms / 10)))
    (sign_ascii 46 (digit (ms / 100) ∷ two_digits ms) (omega arith) (sign_ascii (digit (ms / 100)) (two_digits ms)
    (digit_ascii (ms / 100)) (two_ascii ms)))))

minutes_ascii : (ms : ℕ) → IsAscii (minutes_text ms)
minutes_ascii ms =
    sign_ascii 58 (two_digits (ms / 60_000 % 60) ++ (58 ∷ (two_digits (ms / 1_000 % 60) ++ fraction_text
    (ms % 1_000)))) (omega arith)
    (IsAscii-append (two_digits (ms / 60_000 % 60)) (58 ∷ (two_digits (ms / 1_000 % 60) ++ fraction_text
    (ms % 1_000))) (two_ascii (ms / 60_000 % 60))
    (sign_ascii 58 (two_digits (ms / 1_000 % 60) ++ fraction_text (ms % 1_000)) (omega arith)
    (IsAscii-append (two_digits (ms / 1_000 % 60)) (fraction_text (ms % 1_000)) (two_ascii (ms / 1_000 % 60))
    (fraction_ascii (ms % 1_000)))))

clock_ascii : (ms : ℕ) → IsAscii (clock_text ms)
clock_ascii ms = IsAscii-append (two_digits (ms / 3_600_000)) (minutes_text ms) (two_ascii (ms / 3_600_000))
    (minutes_ascii ms)

time_ascii : (ms : ℕ) → IsAscii (time_after_day ms)
time_ascii ms = if_ascii (ms == 0) [] (84 ∷ clock_text ms) IsAscii-nil (sign_ascii 84 (clock_text ms)
    (omega arith) (clock_ascii ms))

date_ascii : (d : Ymd) → IsAscii (date_text d)
date_ascii d =
    IsAscii-append (two_digits (d.0 / 100)) (two_digits d.0 ++ (45 ∷ (two_digits d.1 ++ (45 ∷ two_digits d.2))))
    (two_ascii (d.0 / 100))
    (IsAscii-append (two_digits d.0) (45 ∷ (two_digits d.1 ++ (45 ∷ two_digits d.2))) (two_ascii d.0)
    (sign_ascii 45 (two_digits d.1 ++ (45 ∷ two_digits d.2)) (omega arith)
    (IsAscii-append (two_digits d.1) (45 ∷ two_digits d.2) (two_ascii d.1)
    (sign_ascii 45 (two_digits d.2) (omega arith) (two_ascii d.2)))))

pub moment_ascii : (is_1904 : Bool) (ms : ℕ) → IsAscii (moment_text is_1904 ms)
moment_ascii is_1904 ms =
    let date = serial_date is_1904 (ms / day) in
    if_ascii (nat_lt ms day) (clock_text ms) (date_text date ++ time_after_day (ms % day)) (clock_ascii ms)
    (IsAscii-append (date_text date) (time_after_day (ms % day)) (date_ascii date) (time_ascii (ms % day)))

pub duration_ascii : (negative : Bool) (ms : ℕ) → ms < 2 ^ 64 → IsAscii (duration_text negative ms)
duration_ascii negative ms small =
    IsAscii-append (sign_of negative ms) (decimal (ms / 3_600_000) ++ minutes_text ms)
    (if_ascii (ms == 0) [] (if negative then 45 ∷ [] else []) IsAscii-nil
    (if_ascii negative (45 ∷ []) [] (sign_ascii 45 [] (omega arith) IsAscii-nil) IsAscii-nil))
    (IsAscii-append (decimal (ms / 3_600_000)) (minutes_text ms) (IsAscii-decimal (ms / 3_600_000) (omega arith))
    (minutes_ascii ms))

decimals_ascii : (n : ℕ) → n < 100 → IsAscii (decimals_text n)
decimals_ascii n small =
    if_ascii (n == 0) [] _ IsAscii-nil
    (sign_ascii 46 (decimal (n / 10) ++ (if n % 10 == 0 then [] else decimal (n % 10))) (omega arith)
    (IsAscii-append (decimal (n / 10)) (if n % 10 == 0 then [] else decimal (n % 10)) (IsAscii-decimal (n / 10)
    (omega arith))
    (if_ascii (n % 10 == 0) [] (decimal (n % 10)) IsAscii-nil (IsAscii-decimal (n % 10) (omega arith)))))

minus_ascii : (n : ℤ) → IsAscii (minus_if_negative n)
minus_ascii (pos n) = IsAscii-nil
minus_ascii (negsuc n) = sign_ascii 45 [] (omega arith) IsAscii-nil

pub hundredths_ascii : (n : ℤ) → unsigned_abs n < 2 ^ 64 → IsAscii (hundredths_text n)
hundredths_ascii n small =
    IsAscii-append (minus_if_negative n) (decimal (unsigned_abs n / 100) ++ decimals_text (unsigned_abs n % 100))
    (minus_ascii n)
    (IsAscii-append (decimal (unsigned_abs n / 100)) (decimals_text (unsigned_abs n % 100))
    (IsAscii-decimal (unsigned_abs n / 100) (omega arith)) (decimals_ascii (unsigned_abs n % 100) (omega arith)))

-- ---- hexadecimal digits

glyph_ascii : (d : ℕ) → d < 16 → digit_glyph false d < 128
glyph_ascii d p = grind (arith, nat_tests)

onto_ascii : (k n : ℕ) (acc : List ℕ) → IsAscii acc → IsAscii (digits_onto k 16 false n acc)
onto_ascii zero n acc p = p
onto_ascii (suc k) n acc p =
    let more = sign_ascii (digit_glyph false (n % 16)) acc (glyph_ascii (n % 16) (omega arith)) p in
    if_ascii (n / 16 == 0) (digit_glyph false (n % 16) ∷ acc) (digits_onto k 16 false (n / 16) (digit_glyph false
    (n % 16) ∷ acc))
    more (onto_ascii k (n / 16) (digit_glyph false (n % 16) ∷ acc) more)

zeros_ascii : (k : ℕ) → IsAscii (replicate k 48)
zeros_ascii zero = IsAscii-nil
zeros_ascii (suc k) = sign_ascii 48 (replicate k 48) (omega arith) (zeros_ascii k)

sixteen_ascii : (n : ℕ) → IsAscii (sixteen_digits n)
unfolding sixteen_digits digits
sixteen_ascii n =
    IsAscii-append (replicate (16 - length (digits 16 false n)) 48) (digits 16 false n)
    (zeros_ascii (16 - length (digits 16 false n))) (onto_ascii 64 n [] IsAscii-nil)

pub bits_ascii : (bits : ℕ) → IsAscii (decimal_of_bits bits)
bits_ascii bits =
    sign_ascii 48 (120 ∷ sixteen_digits bits) (omega arith) (sign_ascii 120 (sixteen_digits bits) (omega arith)
    (sixteen_ascii bits))

pub bits_over_100_ascii : (bits : ℕ) → IsAscii (decimal_of_bits bits ++ codes "/100")
bits_over_100_ascii bits =
    IsAscii-append (decimal_of_bits bits) (47 ∷ 49 ∷ 48 ∷ 48 ∷ []) (bits_ascii bits)
    (sign_ascii 47 (49 ∷ 48 ∷ 48 ∷ []) (omega arith) (sign_ascii 49 (48 ∷ 48 ∷ []) (omega arith) (sign_ascii 48
    (48 ∷ []) (omega arith) (sign_ascii 48 [] (omega arith) IsAscii-nil))))
