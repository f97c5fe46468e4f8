-- What stands for a byte in a string of JSON.
use Rattle.std.proofs.Common.{◌≡◌, ℕ, ◌/◌, ◌%◌, ◌<◌, [], ◌∷◌, true, false, arith}
use Rattle.std.specs.Char.{digit_char}
use Rattle.std.proofs.lemmas.Bool.Decides.{nat_tests}
use Rattle.json.specs.Print.{escape_byte, escape_letter}
use Rattle.xls_readable.specs.Json.{is_plain}

pub escape_byte-plain : (b : ℕ) → is_plain b ≡ true → escape_byte b ≡ b ∷ []
unfolding escape_byte
escape_byte-plain b e = grind (arith, nat_tests)

pub escape_byte-letter : (b : ℕ) → 0 < escape_letter b → escape_byte b ≡ 0x5C ∷ escape_letter b ∷ []
unfolding escape_byte
escape_byte-letter b l = grind (arith, nat_tests)

pub escape_byte-control : (b : ℕ) → escape_letter b ≡ 0 → is_plain b ≡ false
    → escape_byte b ≡ 0x5C ∷ 117 ∷ 48 ∷ 48 ∷ digit_char (b / 16) ∷ digit_char (b % 16) ∷ []
unfolding escape_byte
escape_byte-control b e p = grind (arith, nat_tests)

pub escape-low : (b : ℕ) → is_plain b ≡ false → b < 128
escape-low b e = grind (arith, nat_tests)
