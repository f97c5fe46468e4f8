-- Texts by their characters.
use Rattle.std.proofs.Common.{◌≡◌, ℕ, List, sym, String, Global}
use Rattle.std.specs.Prelude.{encode_utf8_all}
use Rattle.std.specs.String.{string_bytes}
use Rattle.std.proofs.lemmas.Str.{chars_from_encodes, IsUtf8-string_bytes}
use Rattle.xls_strings.specs.Texts.{text_of}

-- the characters that a text spells
pub text_spelled : (s : String Global) (cs : List ℕ) → string_bytes s ≡ encode_utf8_all cs → text_of s ≡ cs
text_spelled s cs e = sym (chars_from_encodes cs (string_bytes s) (IsUtf8-string_bytes s) (sym e))
