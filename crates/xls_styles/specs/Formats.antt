-- The code of a number format ([MS-XLS] 2.4.126 Format): an identifier (ifmt) at 0, and from 2 on the code, a string, and
-- before BIFF8 a short string. The last Format with an identifier counts, else the code that is built in.
use Rattle.std.specs.Prelude.{◌≡◌, ℕ, zero, suc, Bool, List, [], ◌∷◌, drop, length, nat_lt, ◌==◌, ◌||◌, if◌then◌else◌, Option, Some, None, unwrap_or, codes, slice_index_or, String}
use Rattle.std.specs.Global.{Global}
use Rattle.std.specs.List.{slice_get}
use Rattle.std.specs.Option.{option_map, option_or}
use Rattle.std.specs.Str.{chars}
use Rattle.xls_number_formats.specs.Builtins.{between, built_in_code}
use Rattle.xls_parts.specs.PartRecords.{Placed}
use Rattle.xls_record.specs.declared.version.Biff.{Biff}
use Rattle.xls_record.specs.Version.{is_biff8}
use Rattle.xls_stream.specs.declared.types.TheConstants.{FORMAT}
use Rattle.xls_text.specs.declared.encoding.XlsEncoding.{XlsEncoding}
use Rattle.xls_strings.specs.Strings.{short_string_at, string_at}
use Rattle.xls_strings.specs.Texts.{text_of}
use Rattle.xls_styles.specs.Fields.{field_at}
use Rattle.xls_styles.specs.Fonts.{or_empty}

-- ---- Format records

-- a format: its identifier and its code
abbrev pub Format : Type 0
Format = ℕ × List ℕ

abbrev pub code_at : Biff → XlsEncoding → List ℕ → List ℕ
code_at version page bytes = or_empty (if is_biff8 version then string_at page version bytes else short_string_at page version bytes)

abbrev pub format_of : Biff → XlsEncoding → List ℕ → Format
format_of version page body = (field_at (0, 0, 16) body, code_at version page (drop 2 body))

-- of the records of the globals, in order; one without an identifier counts for nothing
abbrev pub formats_of : Biff → XlsEncoding → List Placed → List Format
formats_of version page [] = []
formats_of version page (r ∷ rs) =
    if r.typ == FORMAT
    then (if nat_lt (length r.body) 2 then formats_of version page rs else format_of version page r.body ∷ formats_of version page rs)
    else formats_of version page rs

-- the code of the last of these formats that has the identifier
abbrev pub last_code : List Format → ℕ → Option (List ℕ)
last_code [] ifmt = None
last_code (f ∷ fs) ifmt = option_or (last_code fs ifmt) (if f.0 == ifmt then Some f.1 else None)

-- ---- codes that are built in

-- As Excel for the United States lists them: the currency without quotes, brackets without backslashes, and dates with
-- two digits of the year.
abbrev pub listed_code : ℕ → Option (List ℕ)
listed_code n =
    if n == 5 then Some (codes "$#,##0_);($#,##0)")
    else if n == 6 then Some (codes "$#,##0_);[Red]($#,##0)")
    else if n == 7 then Some (codes "$#,##0.00_);($#,##0.00)")
    else if n == 8 then Some (codes "$#,##0.00_);[Red]($#,##0.00)")
    else if n == 14 then Some (codes "m/d/yy")
    else if n == 22 then Some (codes "m/d/yy h:mm")
    else if n == 37 then Some (codes "#,##0_);(#,##0)")
    else if n == 38 then Some (codes "#,##0_);[Red](#,##0)")
    else if n == 39 then Some (codes "#,##0.00_);(#,##0.00)")
    else if n == 40 then Some (codes "#,##0.00_);[Red](#,##0.00)")
    else if n == 41 then Some (codes "_(* #,##0_);_(* (#,##0);_(* \"-\"_);_(@_)")
    else if n == 42 then Some (codes "_($* #,##0_);_($* (#,##0);_($* \"-\"_);_(@_)")
    else if n == 43 then Some (codes "_(* #,##0.00_);_(* (#,##0.00);_(* \"-\"??_);_(@_)")
    else if n == 44 then Some (codes "_($* #,##0.00_);_($* (#,##0.00);_($* \"-\"??_);_(@_)")
    else None

-- 27 to 36 and 50 to 58 hang on the language of Excel
abbrev pub hangs_on_language : ℕ → Bool
hangs_on_language n = between 27 36 n || between 50 58 n

-- others are listed as they are shown by, and General where none is built in
abbrev pub shown_code : ℕ → List ℕ
shown_code n = unwrap_or (built_in_code n) (codes "General")

abbrev pub told_code : ℕ → List ℕ
told_code n =
    if hangs_on_language n then []
    else unwrap_or (listed_code n) (shown_code n)

-- ---- the code of an identifier

abbrev pub code_of : List Format → ℕ → List ℕ
code_of formats ifmt = unwrap_or (last_code formats ifmt) (chars (told_code ifmt))

-- ---- for the contracts

-- one as the code keeps it
abbrev pub format_view : ℕ × String Global → Format
format_view f = (f.0, text_of f.1)

-- ---- for the proofs: places by identifiers

-- the place of an identifier, from 1 on, and 0 where it has none
abbrev pub place_at : List ℕ → ℕ → ℕ
place_at places ifmt = slice_index_or places ifmt 0

-- the place of one identifier is this, and those of the others are as before
abbrev pub PutsPlace : List ℕ → ℕ → ℕ → List ℕ → Type 0
PutsPlace old ifmt place new = (i : ℕ) → place_at new i ≡ (if ifmt == i then place else place_at old i)

-- the code at a place
abbrev pub code_in : List Format → ℕ → Option (List ℕ)
code_in formats zero = None
code_in formats (suc p) = option_map (λ (f : Format). f.1) (slice_get formats p)

-- the place of each identifier is that of the last of some formats which has it
abbrev pub AreLast : List Format → List Format → List ℕ → Type 0
AreLast formats some places = (i : ℕ) → code_in formats (place_at places i) ≡ last_code some i
