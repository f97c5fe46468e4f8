-- The ends of lines, character by character.
use Rattle.std.proofs.Common.{◌≡◌, ℕ, List, [], ◌∷◌, ◌++◌, length, encode_utf8_all, append_assoc, IsUtf8, arith, refl, sym, ap, ◌∙◌}
use Rattle.std.specs.Str.{chars}
use Rattle.std.proofs.Math.Utf8.{encode}
use Rattle.std.proofs.lemmas.Str.{chars_past_char}
use Rattle.xls_macros.specs.Newlines.{kept, last, lines_from, place_after}
use Rattle.xls_macros.specs.declared.newlines.Place.{Place}

pub encoded_both : (xs ys : List ℕ) → encode_utf8_all (xs ++ ys) ≡ encode_utf8_all xs ++ encode_utf8_all ys
encoded_both [] ys = refl
encoded_both (x ∷ xs) ys = ap (λ (l : List ℕ). encode x ++ l) (encoded_both xs ys) ∙ sym (append_assoc (encode x) (encode_utf8_all xs) (encode_utf8_all ys))

-- no character is left
pub lines_all : (rest : List ℕ) (place : Place) → length rest ≡ 0 → encode_utf8_all (lines_from place (chars rest)) ≡ encode_utf8_all (last place)
unfolding chars
lines_all [] place e = refl
lines_all (b ∷ bs) place e = absurd (omega (arith, e))

-- the next character
pub lines_more : (rest others text new whole : List ℕ) (c : ℕ) (place : Place) → IsUtf8 rest → rest ≡ encode c ++ others
    → new ≡ text ++ encode_utf8_all (kept place c) → text ++ encode_utf8_all (lines_from place (chars rest)) ≡ whole
    → new ++ encode_utf8_all (lines_from (place_after c) (chars others)) ≡ whole
lines_more rest others text new whole c place u e appended so_far =
    let left = lines_from (place_after c) (chars others) in
    rw appended
    (append_assoc text (encode_utf8_all (kept place c)) (encode_utf8_all left)
    ∙ ap (λ (l : List ℕ). text ++ l) (sym (encoded_both (kept place c) left))
    ∙ (rw (chars_past_char rest others c u e) at so_far))
