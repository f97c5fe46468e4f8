-- What is appended to a text, by its characters.
use Rattle.std.proofs.Common.{◌≡◌, ◌≢◌, ℕ, List, [], ◌∷◌, ◌++◌, IsUtf8, Result, Ok, Err, is_ok, OnOk, OnErr, if◌then◌else◌, codes}
use Rattle.std.proofs.Common.{encode_utf8, refl, sym, subst, ap, ◌∙◌, append_assoc, append-nil, arith, String, Global}
use Rattle.std.specs.Char.{IsScalar}
use Rattle.std.proofs.lemmas.Bool.Decides.{nat_tests}
use Rattle.std.specs.Str.{chars, IsAscii}
use Rattle.std.specs.String.{string_bytes}
use Rattle.std.proofs.lemmas.Str.{IsUtf8-string_bytes, IsUtf8-encode, IsUtf8-nil, chars-append, chars-nil, chars-IsAscii, chars_past_char}
use Rattle.std.proofs.lemmas.Str.{IsUtf8-from_ascii}
use Rattle.xls_bytes.specs.Growth.{IsGrown}
use Rattle.xls_strings.specs.Texts.{text_of}
use Rattle.xls_formula_leaves.specs.Constants.{doubled_one}

-- what `push` and `push_str` leave where there was memory
pub pushed : {T E : Type 0} (r : Result T E) (old new : String Global) (more cs : List ℕ) → string_bytes new
    ≡ (if is_ok r then string_bytes old ++ more else string_bytes old) → chars more ≡ cs → OnOk r (text_of new ≡ text_of old ++ cs)
pushed (Ok x) old new more cs e f = ap chars e ∙ (chars-append (string_bytes old) more (IsUtf8-string_bytes old) ∙ ap
    (λ xs. text_of old ++ xs) f)
pushed (Err x) old new more cs e f = tt

-- and what they leave at any rate
pub grown_by : {T E : Type 0} (r : Result T E) (old more new : List ℕ) → IsUtf8 more → new ≡ (if is_ok r then old
    ++ more else old) → IsGrown old new
grown_by (Ok x) old more new text e = (more, text, e)
grown_by (Err x) old more new text e = ([], IsUtf8-nil, e ∙ sym (append-nil old))

-- the same of a call whose error leaves the text as it was
pub ascii_pushed : {T E : Type 0} (r : Result T E) (old new : String Global) (more : List ℕ) → IsAscii more → OnOk r (string_bytes new
    ≡ string_bytes old ++ more) → OnOk r (text_of new ≡ text_of old ++ more)
ascii_pushed (Ok x) old new more a e = ap chars e ∙ (chars-append (string_bytes old) more (IsUtf8-string_bytes old) ∙ ap
    (λ xs. text_of old ++ xs) (chars-IsAscii more a))
ascii_pushed (Err x) old new more a e = tt

pub ascii_grown : {T E : Type 0} (r : Result T E) (old more new : List ℕ) → IsAscii more → OnOk r (new ≡ old ++ more) → OnErr r (new
    ≡ old) → IsGrown old new
ascii_grown (Ok x) old more new a e f = (more, IsUtf8-from_ascii more a, e)
ascii_grown (Err x) old more new a e f = ([], IsUtf8-nil, f ∙ sym (append-nil old))

-- a part more of what is left
pub left_more : (old now whole one rest left : List ℕ) → left ≡ one ++ rest → now ≡ old ++ one → old ++ left ≡ whole → now ++ rest ≡ whole
left_more old now whole one rest left e f all = ap (λ xs. xs ++ rest) f ∙ append_assoc old one rest ∙ sym (ap (λ xs. old ++ xs) e) ∙ all

-- ---- quotes

two_quotes : chars (codes "\"\"") ≡ 0x22 ∷ 0x22 ∷ []
unfolding chars
two_quotes = refl

-- a quote twice, another character once
pub twice : (c : ℕ) → c ≡ 0x22 → chars (codes "\"\"") ≡ doubled_one c
twice c e = subst (λ d. chars (codes "\"\"") ≡ doubled_one d) (sym e) two_quotes

pub once : (c : ℕ) → IsScalar c → c ≢ 0x22 → chars (encode_utf8 c) ≡ doubled_one c
once c scalar other =
    chars_past_char (encode_utf8 c) [] c (IsUtf8-encode c scalar) (sym (append-nil (encode_utf8 c))) ∙ ap (λ xs. c
    ∷ xs) chars-nil ∙ grind (arith, nat_tests, other)
