-- The names of files for sheets.
use Rattle.std.specs.Prelude.{◌≡◌, ℕ, ◌-◌, ◌<◌, ◌^◌, ◌==◌, ◌||◌, nat_le, nat_lt, if◌then◌else◌, Bool, false, List, [], ◌∷◌, ◌++◌, map, encode_utf8_all}
use Rattle.std.specs.Char.{len_utf8}
use Rattle.std.specs.Fmt.{decimal}
use Rattle.std.specs.List.{All}

-- a control of ASCII, or one of " * / : < > ? \ |, which names of files can't have on each system
abbrev pub is_refused : ℕ → Bool
is_refused c =
    nat_lt c 0x20 || ((c == 0x7F) || ((c == 0x22) || ((c == 0x2A) || ((c == 0x2F) || ((c == 0x3A) || ((c == 0x3C)
    || ((c == 0x3E) || ((c == 0x3F) || ((c == 0x5C) || (c == 0x7C))))))))))

-- a low line stands for each of them
abbrev pub kept_char : ℕ → ℕ
kept_char c = if is_refused c then 0x5F else c

-- the first characters, as many as take so many bytes in UTF-8
abbrev pub fitting : ℕ → List ℕ → List ℕ
fitting room [] = []
fitting room (c ∷ cs) = if nat_le (len_utf8 c) room then c ∷ fitting (room - len_utf8 c) cs else []

-- a number in decimal, in two digits at least
abbrev pub at_least_two_digits : ℕ → List ℕ
at_least_two_digits n = if nat_lt n 10 then 0x30 ∷ decimal n else decimal n

-- the number, a dash, and what is kept of a sheet's name, in UTF-8
abbrev pub file_name : ℕ → List ℕ → List ℕ
file_name number sheet =
    at_least_two_digits number ++ 0x2D ∷ encode_utf8_all (fitting 190 (map kept_char sheet))

-- no byte of a name is a NUL or a slash
abbrev pub IsSafeByte : ℕ → Type 0
IsSafeByte b = ((b == 0) || (b == 0x2F)) ≡ false

abbrev pub IsSafeName : List ℕ → Type 0
IsSafeName name = All IsSafeByte name

-- names with different numbers differ, whatever the sheets' names are
abbrev pub FileNamesDiffer : Type 0
FileNamesDiffer =
    (m n : ℕ) (one other : List ℕ) → m < 2 ^ 64 → n < 2 ^ 64 → file_name m one ≡ file_name n other → m ≡ n
