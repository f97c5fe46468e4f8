-- What a text gained.
use Rattle.std.proofs.Common.{◌≡◌, ℕ, ◌+◌, List, [], ◌∷◌, ◌++◌, length, refl, sym, ◌∙◌, ap, arith, length-append, String, Global}
use Rattle.std.proofs.Math.Utf8.{scalar, scalars}
use Rattle.std.specs.Prelude.{IsUtf8, ◌&&◌, Bool, false, true, encode_utf8_all}
use Rattle.std.specs.Str.{chars}
use Rattle.std.specs.String.{string_bytes, string_len}
use Rattle.std.proofs.lemmas.Str.{IsUtf8-string_bytes, scalars-chars, chars-encodes, encodes-append, encodes-chars}
use Rattle.xls_strings.specs.Texts.{text_of}

-- the bytes of the characters that a text gained
pub record IsAdded (old new text : List ℕ) : Type 0 where
  pub bytes : List ℕ
  pub is : new ≡ old ++ bytes
  pub utf8 : IsUtf8 bytes
  pub spells : chars bytes ≡ text

both_right : (a b : Bool) → (a && b) ≡ true → b ≡ true
both_right true b e = e
both_right false b e = grind arith

scalars_after : (cs ds : List ℕ) → scalars (cs ++ ds) ≡ true → scalars ds ≡ true
scalars_after [] ds e = e
scalars_after (c ∷ cs) ds e = scalars_after cs ds (both_right (scalar c) (scalars (cs ++ ds)) e)

pub added_text : (old new : String Global) (text : List ℕ) → text_of new ≡ text_of old ++ text → IsAdded (string_bytes old) (string_bytes new) text
added_text old new text e =
    let all : scalars (text_of old ++ text) ≡ true = ap scalars (sym e) ∙ scalars-chars (string_bytes new) (IsUtf8-string_bytes new) in
    let some : scalars text ≡ true = scalars_after (text_of old) text all in
    record {
      bytes = encode_utf8_all text;
      is =
          sym (encodes-chars (string_bytes new) (IsUtf8-string_bytes new))
          ∙ (ap encode_utf8_all e
          ∙ (encodes-append (text_of old) text
          ∙ ap (λ (x : List ℕ). x ++ encode_utf8_all text) (encodes-chars (string_bytes old) (IsUtf8-string_bytes old))));
      utf8 = (text, (some, refl));
      spells = chars-encodes text some;
    }

string_length : (s : String Global) → string_len s ≡ length (string_bytes s)
string_length s = omega (arith, s.bytes.ok.0)

pub longer_text : (old new : String Global) (bytes : List ℕ) → string_bytes new ≡ string_bytes old ++ bytes → string_len new ≡ string_len old + length bytes
longer_text old new bytes e =
    let all : length (string_bytes new) ≡ length (string_bytes old) + length bytes = ap length e ∙ length-append (string_bytes old) bytes in
    omega (arith, all, string_length old, string_length new)
