-- Names of files, character by character.
use Rattle.std.proofs.Common.{◌≡◌, ℕ, zero, suc, ◌+◌, ◌-◌, ◌%◌, ◌<◌, ◌≤◌, ◌^◌, inl, inr, Bool, true, false, List, [], ◌∷◌, ◌++◌, length, get_or, map, encode_utf8_all, append_assoc, append-nil, length-append, IsUtf8, arith, refl, sym, ap, ◌∙◌}
use Rattle.std.specs.Prelude.{if◌then◌else◌, nat_le, nat_lt}
use Rattle.std.specs.Char.{len_utf8}
use Rattle.std.specs.Fmt.{decimal}
use Rattle.std.specs.Str.{chars}
use Rattle.std.proofs.Math.Utf8.{encode}
use Rattle.std.proofs.lemmas.Bool.{cases_lt}
use Rattle.std.proofs.lemmas.Fmt.{decimal_by_steps, length-decimal-le}
use Rattle.std.proofs.lemmas.List.{get_or_default}
use Rattle.std.proofs.lemmas.List.Elements.{All-append, All-nil}
use Rattle.std.proofs.lemmas.Str.{chars_past_char, inside_one, length-encode}
use Rattle.xls_tables.specs.FileNames.{IsSafeByte, IsSafeName, file_name, fitting, is_refused, kept_char, at_least_two_digits}

-- ---- the characters that fit

-- no character is left
pub fitted_all : (rest : List ℕ) (room : ℕ) → length rest ≡ 0 → encode_utf8_all (fitting room (map kept_char (chars rest))) ≡ []
unfolding chars
fitted_all [] room e = refl
fitted_all (b ∷ bs) room e = absurd (omega (arith, e))

-- the next character has no room
pub fitted_none : (rest others : List ℕ) (c d n room : ℕ) → IsUtf8 rest → rest ≡ encode c ++ others → d ≡ kept_char c
    → n ≡ len_utf8 d → room < n → encode_utf8_all (fitting room (map kept_char (chars rest))) ≡ []
fitted_none rest others c d n room u e is size l =
    let full : nat_le (len_utf8 d) room ≡ false = over (len_utf8 d) room (omega (arith, size, l)) in
    rw (chars_past_char rest others c u e, sym is, full) refl
  where
    over : (m room : ℕ) → room < m → nat_le m room ≡ false
    over m room l = grind arith

-- the next character has room
pub fitted_more : (rest others text new whole : List ℕ) (c d n room : ℕ) → IsUtf8 rest → rest ≡ encode c ++ others → d ≡ kept_char c
    → n ≡ len_utf8 d → n ≤ room → new ≡ text ++ encode d
    → text ++ encode_utf8_all (fitting room (map kept_char (chars rest))) ≡ whole
    → new ++ encode_utf8_all (fitting (room - n) (map kept_char (chars others))) ≡ whole
fitted_more rest others text new whole c d n room u e is size l appended so_far =
    let fits : nat_le (len_utf8 d) room ≡ true = within (len_utf8 d) room (omega (arith, size, l)) in
    let left = encode_utf8_all (fitting (room - len_utf8 d) (map kept_char (chars others))) in
    rw (appended, size)
    (append_assoc text (encode d) left ∙ (rw (chars_past_char rest others c u e, sym is, fits) at so_far))
  where
    within : (m room : ℕ) → m ≤ room → nat_le m room ≡ true
    within m room l = grind arith

-- ---- bytes of a name

all_one : (b : ℕ) → IsSafeByte b → IsSafeName (b ∷ [])
all_one b t zero d l = t
all_one b t (suc k) d l = absurd (omega (arith, l))

kept_allowed : (c : ℕ) → is_refused (kept_char c) ≡ false
kept_allowed c = by_test (is_refused c) refl
  where
    by_test : (t : Bool) → is_refused c ≡ t → is_refused (if t then 0x5F else c) ≡ false
    by_test true e = refl
    by_test false e = e

-- a byte below 128 is its character itself
encoded_safe : (c : ℕ) → is_refused c ≡ false → IsSafeName (encode c)
encoded_safe c e k d l = elim (cases_lt (get_or (encode c) k d) 128) [
  | inl small ↦
      let same : get_or (encode c) k 0 ≡ get_or (encode c) k d = get_or_default (encode c) k 0 d l in
      let is : c ≡ get_or (encode c) k d = inside_one c [] (encode c) k (sym (append-nil (encode c))) l (omega (arith, same, small)) ∙ same in
      rw (← is) (allowed c e)
  | inr large ↦ grind arith
]
  where
    allowed : (c : ℕ) → is_refused c ≡ false → IsSafeByte c
    allowed c e = grind arith

fitting_safe : (room : ℕ) (cs : List ℕ) → IsSafeName (encode_utf8_all (fitting room (map kept_char cs)))
fitting_safe room [] = All-nil IsSafeByte
fitting_safe room (c ∷ cs) = by_test (nat_le (len_utf8 (kept_char c)) room) (fitting_safe (room - len_utf8 (kept_char c)) cs)
  where
    by_test : (t : Bool)
        → IsSafeName (encode_utf8_all (fitting (room - len_utf8 (kept_char c)) (map kept_char cs)))
        → IsSafeName (encode_utf8_all (if t then kept_char c ∷ fitting (room - len_utf8 (kept_char c)) (map kept_char cs) else []))
    by_test true rest = All-append IsSafeByte (encode (kept_char c)) (encode_utf8_all (fitting (room - len_utf8 (kept_char c)) (map kept_char cs)))
        (encoded_safe (kept_char c) (kept_allowed c)) rest
    by_test false rest = All-nil IsSafeByte

digit_safe : (n : ℕ) → IsSafeByte (48 + n)
digit_safe n = grind arith

decimal_safe : (n : ℕ) → n < 2 ^ 64 → IsSafeName (decimal n)
decimal_safe n small = decimal_by_steps (λ n ds. IsSafeName ds) (λ n l. all_one (48 + n) (digit_safe n))
    (λ n ds l safe. All-append IsSafeByte ds ((48 + n % 10) ∷ []) safe (all_one (48 + n % 10) (digit_safe (n % 10)))) n small

number_safe : (n : ℕ) → n < 2 ^ 64 → IsSafeName (at_least_two_digits n)
number_safe n small = by_test (nat_lt n 10)
  where
    by_test : (t : Bool) → IsSafeName (if t then 0x30 ∷ decimal n else decimal n)
    by_test true = All-append IsSafeByte (0x30 ∷ []) (decimal n) (all_one 0x30 refl) (decimal_safe n small)
    by_test false = decimal_safe n small

pub name_safe : (n : ℕ) (sheet : List ℕ) → n < 2 ^ 64 → IsSafeName (file_name n sheet)
name_safe n sheet small =
    let rest = encode_utf8_all (fitting 190 (map kept_char sheet)) in
    All-append IsSafeByte (at_least_two_digits n) (0x2D ∷ rest) (number_safe n small)
    (All-append IsSafeByte (0x2D ∷ []) rest (all_one 0x2D refl) (fitting_safe 190 sheet))

-- ---- the length of a name

fitting_short : (room : ℕ) (cs : List ℕ) → length (encode_utf8_all (fitting room cs)) ≤ room
fitting_short room [] = omega arith
fitting_short room (c ∷ cs) = elim (cases_lt room (len_utf8 c)) [
  | inl full ↦
      let t : nat_le (len_utf8 c) room ≡ false = grind arith in
      rw t (omega arith)
  | inr fits ↦
      let t : nat_le (len_utf8 c) room ≡ true = grind arith in
      let rest = encode_utf8_all (fitting (room - len_utf8 c) cs) in
      let size : length (encode c ++ rest) ≡ length (encode c) + length rest = length-append (encode c) rest in
      rw t (omega (arith, size, length-encode c, fitting_short (room - len_utf8 c) cs))
]

number_short : (n : ℕ) → n < 2 ^ 64 → length (at_least_two_digits n) ≤ 20
number_short n small = elim (cases_lt n 10) [
  | inl few ↦
      let t : nat_lt n 10 ≡ true = grind arith in
      rw t (omega (arith, length-decimal-le 1 n (omega arith) (omega (arith, few)) small))
  | inr many ↦
      let t : nat_lt n 10 ≡ false = grind arith in
      rw t (length-decimal-le 20 n (omega arith) (omega (arith, small)) small)
]

pub name_short : (n : ℕ) (sheet : List ℕ) → n < 2 ^ 64 → length (file_name n sheet) ≤ 211
name_short n sheet small =
    let rest = encode_utf8_all (fitting 190 (map kept_char sheet)) in
    omega (arith, length-append (at_least_two_digits n) (0x2D ∷ rest), number_short n small, fitting_short 190 (map kept_char sheet))

-- nothing is left to append
pub ended : (text rest whole : List ℕ) → rest ≡ [] → text ++ rest ≡ whole → text ≡ whole
ended text rest whole none e = sym (append-nil text) ∙ ap (λ (l : List ℕ). text ++ l) (sym none) ∙ e
