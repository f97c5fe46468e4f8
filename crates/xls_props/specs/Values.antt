-- Typed property values as texts ([MS-OLEPS] TypedPropertyValue, PropertyType). A text is the list
-- of its bytes in UTF-8.
use Rattle.std.specs.Prelude.{◌≡◌, ℕ, ◌+◌, ◌*◌, ◌/◌, ◌%◌, List, [], ◌∷◌, ◌++◌, length, Option, Some, None, nat_lt, nat_le, ◌==◌, ◌&&◌, ◌||◌, if◌then◌else◌, Result, Ok, Err, codes}
use Rattle.std.specs.Option.{option_map, unwrap_or}
use Rattle.std.specs.Fmt.{decimal, signed_decimal}
use Rattle.std.specs.Str.{encode_utf8_all}
use Rattle.std.specs.String.{string_bytes}
use Rattle.std.specs.declared.string.String.{String}
use Rattle.xls_text.specs.declared.encoding.XlsEncoding.{XlsEncoding}
use Rattle.xls_text.specs.declared.encoding.XlsEncoding.TheVariants.{Utf8, Utf16}
use Rattle.xls_text.specs.declared.error.CfbError.{CfbError}
use Rattle.xls_text.specs.Pages.{decoded, page_of}
use Rattle.xls_dates.specs.Numbers.{bits_text}
use Rattle.xls_props.specs.PropertyTypes.{VT_I2, VT_I4, VT_R8, VT_BOOL, VT_UI4, VT_LPSTR, VT_LPWSTR, VT_FILETIME}
use Rattle.xls_props.specs.Bytes.{bytes_at, u16_at, i16_at, u32_at, i32_at, u64_at}
use Rattle.xls_props.specs.Entries.{Entry, first_of, last_of}
use Rattle.xls_props.specs.Moments.{IsMoment, past_last_day}

-- what follows where a value is there
infixl 10 ◌>>=◌
abbrev pub ◌>>=◌ : {A B : Type 0} → Option A → (A → Option B) → Option B
(Some x) >>= f = f x
None >>= f = None

-- a text without the NULs at its end
abbrev pub without_nuls : List ℕ → List ℕ
without_nuls [] = []
without_nuls (c ∷ cs) =
    if (c == 0) && (length (without_nuls cs) == 0) then [] else c ∷ without_nuls cs

-- bytes in a page as a text
abbrev pub paged_text : XlsEncoding → List ℕ → List ℕ
paged_text page bytes = without_nuls (encode_utf8_all (decoded page bytes))

-- what a property shows: a text, or a moment
pub data Value : Type 0 where
  Plain : List ℕ → Value
  Moment : ℕ → Value

-- the number 4 bytes after the first entry 1, where its type is VT_I2
abbrev pub page_number : List Entry → List ℕ → Option ℕ
page_number es s = first_of 1 es >>= λ at. u16_at s at >>= λ typ.
    if typ == VT_I2 then u16_at s (at + 4) else None

-- a page that isn't read is UTF-8
abbrev pub read_page : Result XlsEncoding CfbError → XlsEncoding
read_page (Ok page) = page
read_page (Err e) = Utf8

-- the page of a section, 1200 where it names none
abbrev pub page_in : List Entry → List ℕ → XlsEncoding
page_in es s = read_page (page_of (unwrap_or (page_number es s) 1200))

-- a 32-bit length, and bytes in the page
abbrev pub bytes_text : XlsEncoding → List ℕ → ℕ → Option (List ℕ)
bytes_text page s at =
    u32_at s at >>= λ n. option_map (paged_text page) (bytes_at s (at + 4) n)

-- a 32-bit count, and so many units of UTF-16
abbrev pub units_text : List ℕ → ℕ → Option (List ℕ)
units_text s at =
    u32_at s at >>= λ n. option_map (paged_text Utf16) (bytes_at s (at + 4) (2 * n))

-- a FILETIME that has a text
abbrev pub moment_of : ℕ → Option Value
moment_of n = if (n == 0) || nat_le past_last_day n then None else Some (Moment n)

abbrev pub moment_at : List ℕ → ℕ → Option Value
moment_at s at = u64_at s at >>= moment_of

-- 0 is false, everything else true
abbrev pub stored_bool_text : ℕ → List ℕ
stored_bool_text n = if n == 0 then codes "false" else codes "true"

-- the text of a value of a type at a place, but no moment
abbrev pub plain_of_type : ℕ → XlsEncoding → List ℕ → ℕ → Option (List ℕ)
plain_of_type typ page s at =
    if typ == VT_I2 then option_map signed_decimal (i16_at s at)
    else if typ == VT_I4 then option_map signed_decimal (i32_at s at)
    else if typ == VT_R8 then option_map bits_text (u64_at s at)
    else if typ == VT_BOOL then option_map stored_bool_text (u16_at s at)
    else if typ == VT_UI4 then option_map decimal (u32_at s at)
    else if typ == VT_LPSTR then bytes_text page s at
    else if typ == VT_LPWSTR then units_text s at
    else None

-- the value of a type at a place; other types have none
abbrev pub value_of_type : ℕ → XlsEncoding → List ℕ → ℕ → Option Value
value_of_type typ page s at =
    if typ == VT_FILETIME then moment_at s at
    else option_map Plain (plain_of_type typ page s at)

-- the value of the property whose type stands at a place
abbrev pub value_at : XlsEncoding → List ℕ → ℕ → Option Value
value_at page s at = u16_at s at >>= λ typ. value_of_type typ page s (at + 4)

-- an empty text is none
abbrev pub some_text : Value → Option Value
some_text (Plain []) = None
some_text v = Some v

abbrev pub value_unless_empty : Option Value → Option Value
value_unless_empty v = v >>= some_text

-- a field: the value of the last entry of its number, which alone decides
abbrev pub field : ℕ → List ℕ → List Entry → XlsEncoding → Option Value
field number s es page = last_of number es >>= λ at. value_unless_empty (value_at page s at)

-- zeros before a number, up to four digits
abbrev pub zeros_before : ℕ → List ℕ
zeros_before n =
    if nat_lt n 10 then codes "000"
    else if nat_lt n 100 then codes "00"
    else if nat_lt n 1000 then codes "0"
    else []

-- the high half, a dot, and the low half in at least four digits, both unsigned
abbrev pub version_text : ℕ → List ℕ
version_text n =
    decimal (n / 0x10000) ++ (codes "." ++ (zeros_before (n % 0x10000) ++ decimal (n % 0x10000)))

-- the application's version: the first entry 17 alone, none unless it is a number of 32 bits
abbrev pub app_version : List ℕ → List Entry → Option (List ℕ)
app_version s es = first_of 0x17 es >>= λ at. u16_at s at >>= λ typ.
    if (typ == VT_I4) || (typ == VT_UI4) then option_map version_text (u32_at s (at + 4)) else None

-- a text shows a value
abbrev pub ShowsValue : Value → List ℕ → Type 0
ShowsValue (Plain text) bytes = bytes ≡ text
ShowsValue (Moment n) bytes = IsMoment n bytes

-- a text is there exactly where a value is, and shows it
abbrev pub Shows : {Z : Type 0} → Option Value → Option (String Z) → Type 0
Shows None None = Unit {0}
Shows (Some v) (Some t) = ShowsValue v (string_bytes t)
Shows None (Some t) = ⊥
Shows (Some v) None = ⊥
