-- Texts by their characters.
use Rattle.std.proofs.Common.{suc, zero, ◌≡◌, ℕ, ◌+◌, ◌-◌, ◌/◌, ◌%◌, ◌<◌, List, [], ◌∷◌, ◌++◌, length, refl, sym, ◌∙◌, ap, arith, String, Global}
use Rattle.std.specs.Prelude.{Bool, false, true, ℤ, pos, negsuc, Option, Some, None, codes, replicate, encode_utf8_all, if◌then◌else◌, ◌==◌, ◌^◌}
use Rattle.std.specs.Fmt.{decimal, signed_decimal, digits, digits_onto, digit_glyph}
use Rattle.std.specs.Str.{chars, IsAscii}
use Rattle.std.specs.String.{string_bytes}
use Rattle.std.proofs.lemmas.Bool.Decides.{nat_tests}
use Rattle.std.proofs.lemmas.List.Elements.{All-replicate}
use Rattle.std.proofs.lemmas.Str.{IsUtf8-string_bytes, chars-append, chars-IsAscii, chars_from_encodes, encodes-append, encodes-chars, IsAscii-append}
use Rattle.std.proofs.lemmas.Str.Ascii.{IsAscii-nil, IsAscii-cons, IsAscii-push, IsAscii-from_all}
use Rattle.xls_bytes.specs.Columns.{word_of, column_name}
use Rattle.xls_bytes.specs.Doubles.{whole_of}
use Rattle.xls_dates.specs.Numbers.{bits_text, whole_text, sixteen_digits}
use Rattle.xls_data.specs.Errors.{error_text}
use Rattle.xls_data.specs.declared.errors.CellErrorType.{CellErrorType}
use Rattle.xls_data.specs.declared.errors.CellErrorType.TheVariants as failures
use Rattle.xls_strings.specs.Texts.{text_of}
use Rattle.xls_formula.specs.Words.{space_mark}

-- ---- appended texts

pub text_more : (old new : String Global) (bs : List ℕ) → string_bytes new ≡ string_bytes old ++ bs → text_of new ≡ text_of old ++ chars bs
text_more old new bs e = ap chars e ∙ chars-append (string_bytes old) bs (IsUtf8-string_bytes old)

pub ascii_more : (old new : String Global) (bs : List ℕ) → IsAscii bs → string_bytes new ≡ string_bytes old ++ bs → text_of new ≡ text_of old ++ bs
ascii_more old new bs a e = text_more old new bs e ∙ ap (λ (x : List ℕ). text_of old ++ x) (chars-IsAscii bs a)

pub ascii_text : (s : String Global) (bs : List ℕ) → IsAscii bs → string_bytes s ≡ bs → text_of s ≡ bs
ascii_text s bs a e = ap chars e ∙ chars-IsAscii bs a

pub encoded_more : (old new : String Global) (cs : List ℕ) → string_bytes new ≡ string_bytes old ++ encode_utf8_all cs → text_of new ≡ text_of old ++ cs
encoded_more old new cs e =
    sym (chars_from_encodes (text_of old ++ cs) (string_bytes new) (IsUtf8-string_bytes new)
    (encodes-append (text_of old) cs
    ∙ (ap (λ (x : List ℕ). x ++ encode_utf8_all cs) (encodes-chars (string_bytes old) (IsUtf8-string_bytes old))
    ∙ sym e)))

-- ---- numbers

glyph_ascii : (upper : Bool) (d : ℕ) → d < 16 → digit_glyph upper d < 128
glyph_ascii false d lt = grind (arith, nat_tests)
glyph_ascii true d lt = grind (arith, nat_tests)

pub either_ascii : (b : Bool) (xs ys : List ℕ) → IsAscii xs → IsAscii ys → IsAscii (if b then xs else ys)
either_ascii true xs ys a b = a
either_ascii false xs ys a b = b

onto_ascii : (base : ℕ) (upper : Bool) → ((n : ℕ) → n % base < 16) → (k n : ℕ) (acc : List ℕ) → IsAscii acc → IsAscii (digits_onto k base upper n acc)
onto_ascii base upper small zero n acc a = a
onto_ascii base upper small (suc k) n acc a =
    let more : IsAscii (digit_glyph upper (n % base) ∷ acc) = IsAscii-cons (digit_glyph upper (n % base)) acc (glyph_ascii upper (n % base) (small n)) a in
    either_ascii (n / base == 0) (digit_glyph upper (n % base) ∷ acc) (digits_onto k base upper (n / base) (digit_glyph upper (n % base) ∷ acc)) more
    (onto_ascii base upper small k (n / base) (digit_glyph upper (n % base) ∷ acc) more)

pub decimal_ascii : (n : ℕ) → IsAscii (decimal n)
unfolding digits
decimal_ascii n = onto_ascii 10 false (λ m. omega arith) 64 n [] IsAscii-nil

pub hex_ascii : (n : ℕ) → IsAscii (digits 16 false n)
unfolding digits
hex_ascii n = onto_ascii 16 false (λ m. omega arith) 64 n [] IsAscii-nil

signed_ascii : (z : ℤ) → IsAscii (signed_decimal z)
signed_ascii (pos n) = decimal_ascii n
signed_ascii (negsuc n) = IsAscii-cons 45 (decimal (suc n)) (omega arith) (decimal_ascii (suc n))

sixteen_ascii : (n : ℕ) → IsAscii (sixteen_digits n)
unfolding sixteen_digits
sixteen_ascii n =
    IsAscii-append (replicate (16 - length (digits 16 false n)) 48) (digits 16 false n)
    (IsAscii-from_all (replicate (16 - length (digits 16 false n)) 48) (All-replicate (λ b. b < 128) (16 - length (digits 16 false n)) 48 (omega arith)))
    (hex_ascii n)

whole_ascii : (o : Option ℤ) (bits : ℕ) → IsAscii (whole_text o bits)
whole_ascii (Some n) bits = signed_ascii n
whole_ascii None bits =
    IsAscii-cons 48 (120 ∷ sixteen_digits bits) (omega arith) (IsAscii-cons 120 (sixteen_digits bits) (omega arith) (sixteen_ascii bits))

pub bits_ascii : (bits : ℕ) → IsAscii (bits_text bits)
bits_ascii bits =
    either_ascii (bits == 2 ^ 63) (codes "-0") (whole_text (whole_of bits) bits)
    (IsAscii-cons 45 (48 ∷ []) (omega arith) (IsAscii-cons 48 [] (omega arith) IsAscii-nil))
    (whole_ascii (whole_of bits) bits)

-- ---- columns

letters_ascii : (k value : ℕ) → IsAscii (word_of k value)
unfolding word_of
letters_ascii zero value = IsAscii-nil
letters_ascii (suc k) zero = IsAscii-nil
letters_ascii (suc k) (suc rest) = IsAscii-push (word_of k (rest / 26)) (65 + rest % 26) (letters_ascii k (rest / 26)) (omega arith)

pub column_ascii : (column : ℕ) → IsAscii (column_name column)
unfolding column_name
column_ascii column = letters_ascii (column + 1) (column + 1)

-- ---- spaces

pub marks_ascii : (is_return : Bool) (n : ℕ) → IsAscii (replicate n (space_mark is_return))
marks_ascii true n = IsAscii-from_all (replicate n 13) (All-replicate (λ b. b < 128) n 13 (omega arith))
marks_ascii false n = IsAscii-from_all (replicate n 32) (All-replicate (λ b. b < 128) n 32 (omega arith))

-- ---- error values

pub chars-error_text : (error : CellErrorType) → chars (error_text error) ≡ error_text error
unfolding chars
chars-error_text failures.Div0 = refl
chars-error_text failures.NA = refl
chars-error_text failures.Name = refl
chars-error_text failures.Null = refl
chars-error_text failures.Num = refl
chars-error_text failures.Ref = refl
chars-error_text failures.Value = refl
chars-error_text failures.GettingData = refl
