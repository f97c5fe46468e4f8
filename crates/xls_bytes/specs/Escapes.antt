-- Texts in the fields of a line, where a newline and a tab can't stand for themselves.
use Rattle.std.specs.Prelude.{ℕ, List, [], ◌∷◌, ◌==◌, if◌then◌else◌, codes, encode_utf8_all}
use Rattle.std.specs.List.{flat_map}

-- a backslash, a newline, a return and a tab as two characters each: `\\`, `\n`, `\r` and `\t`
abbrev pub escaped_char : ℕ → List ℕ
escaped_char c =
    if c == 0x5C then codes "\\\\"
    else if c == 0x0A then codes "\\n"
    else if c == 0x0D then codes "\\r"
    else if c == 9 then codes "\\t"
    else c ∷ []

-- characters, escaped
abbrev pub escaped : List ℕ → List ℕ
escaped cs = flat_map escaped_char cs

-- the bytes of the text of these characters, escaped
abbrev pub escaped_text : List ℕ → List ℕ
escaped_text cs = encode_utf8_all (escaped cs)
