-- Pages of pairs: a lead byte and a trail byte are one character.
use Rattle.std.specs.Prelude.{ℕ, ◌+◌, ◌-◌, ◌*◌, Bool, true, false, ◌==◌, ◌&&◌, ◌||◌, List, [], ◌∷◌, not, nat_lt, if◌then◌else◌, slice_index_or}
use Rattle.xls_pages.specs.declared.pairs_932.TheConstants.{PAIRS_932}
use Rattle.xls_pages.specs.declared.pairs_936.TheConstants.{PAIRS_936}
use Rattle.xls_pages.specs.declared.pairs_949.TheConstants.{PAIRS_949}
use Rattle.xls_pages.specs.declared.pairs_950.TheConstants.{PAIRS_950}
use Rattle.xls_pages.specs.declared.double.DoublePage.{DoublePage}
use Rattle.xls_pages.specs.declared.double.DoublePage.TheVariants.{P932, P936, P949, P950}

-- whether a byte is one of those from the first to the last
abbrev pub is_within : ℕ → ℕ → ℕ → Bool
is_within first last b = not (nat_lt b first) && not (nat_lt last b)

-- the character of a byte from 80 on that stands alone; 0 where it doesn't
abbrev pub alone : DoublePage → ℕ → ℕ
alone P932 b = if b == 0x80 then 0x80 else if is_within 0xA1 0xDF b then 0xFF61 + (b - 0xA1) else 0
alone P936 b = if b == 0x80 then 0x20AC else 0
alone P949 b = 0
alone P950 b = 0

abbrev pub is_lead : DoublePage → ℕ → Bool
is_lead P932 b = is_within 0x81 0x9F b || is_within 0xE0 0xFC b
is_lead P936 b = is_within 0x81 0xFE b
is_lead P949 b = is_within 0x81 0xFE b
is_lead P950 b = is_within 0x81 0xFE b

-- ---- the table: a row for each lead byte, in it a unit for each trail byte from the first to the last; 0 is none

abbrev pub pairs_of : DoublePage → List ℕ
pairs_of P932 = PAIRS_932
pairs_of P936 = PAIRS_936
pairs_of P949 = PAIRS_949
pairs_of P950 = PAIRS_950

abbrev pub low_trail : DoublePage → ℕ
low_trail P932 = 0x40
low_trail P936 = 0x40
low_trail P949 = 0x41
low_trail P950 = 0x40

abbrev pub high_trail : DoublePage → ℕ
high_trail P932 = 0xFC
high_trail P936 = 0xFE
high_trail P949 = 0xFE
high_trail P950 = 0xFE

abbrev pub row_of : DoublePage → ℕ → ℕ
row_of P932 lead = if nat_lt lead 0xE0 then lead - 0x81 else lead - 0xC1
row_of P936 lead = lead - 0x81
row_of P949 lead = lead - 0x81
row_of P950 lead = lead - 0x81

-- the character of a pair; 0 where it has none
abbrev pub pair : DoublePage → ℕ → ℕ → ℕ
pair page lead trail =
    if is_lead page lead && is_within (low_trail page) (high_trail page) trail
    then slice_index_or (pairs_of page)
    (row_of page lead * (high_trail page - low_trail page + 1) + (trail - low_trail page)) 0
    else 0

-- ---- texts

-- U+FFFD where there is no character
abbrev pub character_or : ℕ → ℕ
character_or unit = if unit == 0 then 0xFFFD else unit

-- a byte that is not taken together with the next
abbrev pub one_character : DoublePage → ℕ → ℕ
one_character page b = if nat_lt b 0x80 then b else character_or (alone page b)

-- whether a byte and the next are one character: they are a pair, or a lead byte before one from 80 on; so no byte below
-- 80 is lost
abbrev pub are_one : DoublePage → ℕ → ℕ → Bool
are_one page lead trail = is_lead page lead && (not (pair page lead trail == 0) || not (nat_lt trail 0x80))

-- the text of bytes, from left to right
abbrev pub double_text : DoublePage → List ℕ → List ℕ
double_text page [] = []
double_text page (b ∷ []) = one_character page b ∷ []
double_text page (b ∷ c ∷ bytes) =
    if are_one page b c then character_or (pair page b c) ∷ double_text page bytes
    else one_character page b ∷ double_text page (c ∷ bytes)
