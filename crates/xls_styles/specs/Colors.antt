-- Colours ([MS-XLS] 2.5.161 Icv): 0 to 7 are fixed, 8 to 63 stand in the palette, all others are the system's.
use Rattle.std.specs.Prelude.{ℕ, zero, suc, ◌+◌, ◌-◌, ◌*◌, List, [], ◌∷◌, ◌++◌, take, drop, length, min, replicate, nat_lt, ◌==◌, if◌then◌else◌, false, codes, unwrap_or, slice_index, slice_index_or}
use Rattle.std.specs.Fmt.{digits}
use Rattle.std.specs.List.{slice_get}
use Rattle.xls_bytes.specs.Numbers.{le}
use Rattle.xls_parts.specs.PartRecords.{Placed}
use Rattle.xls_record.specs.declared.version.Biff.{Biff}
use Rattle.xls_record.specs.Version.{is_biff8}
use Rattle.xls_styles.specs.declared.types.TheConstants.{PALETTE}
use Rattle.xls_styles.specs.declared.colors.Color.{Color}
use Rattle.xls_styles.specs.declared.colors.Color.TheVariants.{Auto, Rgb}

-- ---- the palette that a workbook has without a Palette record: 56 colours as rrggbb

abbrev pub colors_of_biff8 : List ℕ
colors_of_biff8 =
    0x000000 ∷ 0xFFFFFF ∷ 0xFF0000 ∷ 0x00FF00 ∷ 0x0000FF ∷ 0xFFFF00 ∷ 0xFF00FF ∷ 0x00FFFF
    ∷ 0x800000 ∷ 0x008000 ∷ 0x000080 ∷ 0x808000 ∷ 0x800080 ∷ 0x008080 ∷ 0xC0C0C0 ∷ 0x808080
    ∷ 0x9999FF ∷ 0x993366 ∷ 0xFFFFCC ∷ 0xCCFFFF ∷ 0x660066 ∷ 0xFF8080 ∷ 0x0066CC ∷ 0xCCCCFF
    ∷ 0x000080 ∷ 0xFF00FF ∷ 0xFFFF00 ∷ 0x00FFFF ∷ 0x800080 ∷ 0x800000 ∷ 0x008080 ∷ 0x0000FF
    ∷ 0x00CCFF ∷ 0xCCFFFF ∷ 0xCCFFCC ∷ 0xFFFF99 ∷ 0x99CCFF ∷ 0xFF99CC ∷ 0xCC99FF ∷ 0xFFCC99
    ∷ 0x3366FF ∷ 0x33CCCC ∷ 0x99CC00 ∷ 0xFFCC00 ∷ 0xFF9900 ∷ 0xFF6600 ∷ 0x666699 ∷ 0x969696
    ∷ 0x003366 ∷ 0x339966 ∷ 0x003300 ∷ 0x333300 ∷ 0x993300 ∷ 0x993366 ∷ 0x333399 ∷ 0x333333 ∷ []

abbrev pub colors_before_biff8 : List ℕ
colors_before_biff8 =
    0x000000 ∷ 0xFFFFFF ∷ 0xFF0000 ∷ 0x00FF00 ∷ 0x0000FF ∷ 0xFFFF00 ∷ 0xFF00FF ∷ 0x00FFFF
    ∷ 0x800000 ∷ 0x008000 ∷ 0x000080 ∷ 0x808000 ∷ 0x800080 ∷ 0x008080 ∷ 0xC0C0C0 ∷ 0x808080
    ∷ 0x8080FF ∷ 0x802060 ∷ 0xFFFFC0 ∷ 0xA0E0E0 ∷ 0x600080 ∷ 0xFF8080 ∷ 0x0080C0 ∷ 0xC0C0FF
    ∷ 0x000080 ∷ 0xFF00FF ∷ 0xFFFF00 ∷ 0x00FFFF ∷ 0x800080 ∷ 0x800000 ∷ 0x008080 ∷ 0x0000FF
    ∷ 0x00CFFF ∷ 0x69FFFF ∷ 0xE0FFE0 ∷ 0xFFFF80 ∷ 0xA6CAF0 ∷ 0xDD9CB3 ∷ 0xB38FEE ∷ 0xE3E3E3
    ∷ 0x2A6FF9 ∷ 0x3FB8CD ∷ 0x488436 ∷ 0x958C41 ∷ 0x8E5E42 ∷ 0xA0627A ∷ 0x624FAC ∷ 0x969696
    ∷ 0x1D2FBE ∷ 0x286676 ∷ 0x004500 ∷ 0x453E01 ∷ 0x6A2813 ∷ 0x85396A ∷ 0x4A3285 ∷ 0x424242 ∷ []

abbrev pub default_colors : Biff → List ℕ
default_colors version = if is_biff8 version then colors_of_biff8 else colors_before_biff8

-- ---- Palette (2.4.188): a count at 0, then four bytes for each colour from 8 on: red, green, blue, and one that is 0

abbrev pub rgb_at : List ℕ → ℕ
rgb_at bytes = slice_index bytes 0 * 0x010000 + slice_index bytes 1 * 0x0100 + slice_index bytes 2

-- so many, up to the first that isn't whole
abbrev pub colors_in : ℕ → List ℕ → List ℕ
colors_in zero bytes = []
colors_in (suc n) bytes = if nat_lt (length bytes) 4 then [] else rgb_at bytes ∷ colors_in n (drop 4 bytes)

-- those of a record, 56 at most
abbrev pub record_colors : List ℕ → List ℕ
record_colors body = colors_in (min (le (take 2 body)) 56) (drop 2 body)

-- those of the last of some records, else these
abbrev pub palette_from : List ℕ → List Placed → List ℕ
palette_from colors [] = colors
palette_from colors (r ∷ rs) = palette_from (if r.typ == PALETTE then record_colors r.body else colors) rs

abbrev pub palette_of : List Placed → List ℕ
palette_of records = palette_from [] records

-- ---- the colour of a number

-- of the default palette at a place
abbrev pub default_at : Biff → ℕ → ℕ
default_at version place = slice_index_or (default_colors version) place 0

-- at a place, by the colours of a Palette record
abbrev pub palette_at : Biff → List ℕ → ℕ → ℕ
palette_at version palette place = unwrap_or (slice_get palette place) (default_at version place)

abbrev pub color_of : Biff → List ℕ → ℕ → Color
color_of version palette icv =
    if nat_lt icv 8 then Rgb (default_at version icv)
    else if nat_lt icv 64 then Rgb (palette_at version palette (icv - 8))
    else Auto

-- ---- its text

-- six digits of base 16
abbrev pub six_digits : ℕ → List ℕ
six_digits n = replicate (6 - length (digits 16 false n)) 0x30 ++ digits 16 false n

abbrev pub color_text : Color → List ℕ
color_text Auto = codes "auto"
color_text (Rgb n) = 0x23 ∷ six_digits n
