-- Texts of a link, each up to its first NUL. A text is the list of its characters.
use Rattle.std.specs.Prelude.{ℕ, List, [], ◌∷◌, length, min, zero, suc, Bool, false, ◌==◌, if◌then◌else◌, None}
use Rattle.std.specs.Char.Utf16.{utf16_lossy_chars}
use Rattle.xls_text.specs.Pages.{units_of, string_text}
use Rattle.xls_text.specs.declared.encoding.XlsEncoding.{XlsEncoding}

-- what stands before the first NUL
abbrev pub until_nul : List ℕ → List ℕ
until_nul [] = []
until_nul (u ∷ us) = if u == 0 then [] else u ∷ until_nul us

-- the text of units of two bytes each; a last odd byte is passed over
abbrev pub units_text : List ℕ → List ℕ
units_text bytes = utf16_lossy_chars (until_nul (units_of bytes))

-- the text of bytes by the page, each its own character under page 1200
abbrev pub bytes_text : XlsEncoding → List ℕ → List ℕ
bytes_text page bytes = string_text page None (until_nul bytes) (length (until_nul bytes))

-- so often `..\`
abbrev pub times_above : ℕ → List ℕ
times_above zero = []
times_above (suc n) = 46 ∷ 46 ∷ 92 ∷ times_above n

-- the same, 256 times at most
abbrev pub above : ℕ → List ℕ
above n = times_above (min n 256)

-- a text begins with `\\`
abbrev pub is_unc : List ℕ → Bool
is_unc (a ∷ b ∷ cs) = if a == 92 then b == 92 else false
is_unc cs = false
