-- Texts as lists of their characters.
use Rattle.std.specs.Global.{Global}
use Rattle.std.specs.Prelude.{ℕ, List, String}
use Rattle.std.specs.String.{string_bytes}
use Rattle.std.specs.Str.{chars}

-- the characters of a text
abbrev pub text_of : String Global → List ℕ
text_of s = chars (string_bytes s)
