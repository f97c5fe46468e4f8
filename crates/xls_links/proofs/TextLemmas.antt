-- Texts by their characters.
use Rattle.std.proofs.Common.{◌≡◌, ℕ, zero, suc, ◌-◌, ◌<◌, List, [], ◌∷◌, ◌++◌, refl, sym, ap, ◌∙◌, arith, append_assoc, String, Global}
use Rattle.std.specs.Str.{chars}
use Rattle.xls_links.specs.Strings.{times_above}
use Rattle.std.specs.Prelude.{encode_utf8_all}
use Rattle.std.specs.String.{string_bytes}
use Rattle.std.proofs.lemmas.Str.{chars_from_encodes, IsUtf8-string_bytes}
use Rattle.xls_strings.specs.Texts.{text_of}

-- the characters that a text spells
pub text_spelled : (s : String Global) (cs : List ℕ) → string_bytes s ≡ encode_utf8_all cs → text_of s ≡ cs
text_spelled s cs e = sym (chars_from_encodes cs (string_bytes s) (IsUtf8-string_bytes s) (sym e))

-- `..\` is three characters
three_chars : chars (46 ∷ 46 ∷ 92 ∷ []) ≡ 46 ∷ 46 ∷ 92 ∷ []
unfolding chars
three_chars = refl

pub above_step : (text new : List ℕ) (left : ℕ) (all : List ℕ) → 0 < left → new ≡ text ++ chars (46 ∷ 46 ∷ 92 ∷ []) → text ++ times_above left ≡ all
    → new ++ times_above (left - 1) ≡ all
above_step text new zero all h e so_far = absurd (omega (arith, h))
above_step text new (suc left) all h e so_far =
    let one : suc left - 1 ≡ left = omega arith in
    ap (λ (cs : List ℕ). cs ++ times_above (suc left - 1)) (e ∙ ap (λ (cs : List ℕ). text ++ cs) three_chars)
    ∙ append_assoc text (46 ∷ 46 ∷ 92 ∷ []) (times_above (suc left - 1))
    ∙ ap (λ (n : ℕ). text ++ (46 ∷ 46 ∷ 92 ∷ times_above n)) one
    ∙ so_far
