-- Decimal numbers are ASCII, and what reads them.
use Rattle.std.proofs.Common.{◌≡◌, ℕ, ◌<◌, ◌==◌, true, false, List, [], ◌∷◌, IsUtf8, ap, sym, subst, refl, ◌∙◌, arith, None}
use Rattle.std.specs.Char.{to_ascii_lowercase}
use Rattle.std.specs.Str.{chars}
use Rattle.std.specs.Prelude.{encode_utf8_all}
use Rattle.std.specs.List.{list_all}
use Rattle.std.proofs.lemmas.Str.{encodes-chars, encode_ascii}
use Rattle.std.proofs.lemmas.Bool.Decides.{nat_tests}
use Rattle.xls_number_formats.specs.Grammar.{is_number_char, elapsed_in, clock_letter_of}

low_char : (c : ℕ) → is_number_char c ≡ true → c < 128
low_char c e = grind (arith, nat_tests)

low_chars : (cs : List ℕ) → list_all is_number_char cs ≡ true → encode_utf8_all cs ≡ cs
low_chars [] all = refl
low_chars (c ∷ cs) all =
    let first : is_number_char c ≡ true = grind (arith, nat_tests) in
    let others : list_all is_number_char cs ≡ true = grind (arith, nat_tests) in
    rw (encode_ascii c (low_char c first), low_chars cs others)

pub ascii_number : (bs : List ℕ) → IsUtf8 bs → list_all is_number_char (chars bs) ≡ true → chars bs ≡ bs
ascii_number bs text all = sym (low_chars (chars bs) all) ∙ encodes-chars bs text

-- a bracket of one letter alone, and one of others too
pub run_alone : (cs rest : List ℕ) (c l : ℕ) → cs ≡ c ∷ rest → l ≡ to_ascii_lowercase c → list_all (λ d. to_ascii_lowercase d == l) rest ≡ true → elapsed_in cs ≡ clock_letter_of l
run_alone cs rest c l e f all =
    let same = subst (λ k. list_all (λ d. to_ascii_lowercase d == k) rest ≡ true) f all in
    ap elapsed_in e ∙ rw same (ap clock_letter_of (sym f))

pub run_mixed : (cs rest : List ℕ) (c l : ℕ) → cs ≡ c ∷ rest → l ≡ to_ascii_lowercase c → list_all (λ d. to_ascii_lowercase d == l) rest ≡ false → elapsed_in cs ≡ None
run_mixed cs rest c l e f all =
    let same = subst (λ k. list_all (λ d. to_ascii_lowercase d == k) rest ≡ false) f all in
    ap elapsed_in e ∙ rw same refl
