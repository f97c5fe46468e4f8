-- The names of custom properties ([MS-OLEPS] Dictionary, DictionaryEntry).
use Rattle.std.specs.Prelude.{◌≡◌, ℕ, zero, suc, ◌+◌, ◌*◌, ◌/◌, List, [], ◌∷◌, drop, Option, Some, None}
use Rattle.std.specs.Option.{option_map}
use Rattle.std.specs.Ordering.{nat_cmp}
use Rattle.std.specs.String.{string_bytes}
use Rattle.std.specs.BTreeMap.{BTreeMap, get}
use Rattle.std.specs.declared.string.String.{String}
use Rattle.xls_text.specs.declared.encoding.XlsEncoding.{XlsEncoding}
use Rattle.xls_text.specs.declared.encoding.XlsEncoding.TheVariants.{Utf16}
use Rattle.xls_props.specs.Bytes.{bytes_at, u32_at}
use Rattle.xls_props.specs.Entries.{last_of}
use Rattle.xls_props.specs.Values.{◌>>=◌, paged_text}

-- a property's number and its name
abbrev pub Name : Type 0
Name = ℕ × List ℕ

-- the bytes of a name: under page 1200 its length counts units
abbrev pub name_size : XlsEncoding → ℕ → ℕ
name_size Utf16 n = 2 * n
name_size page n = n

-- and there it is padded to four bytes
abbrev pub name_room : XlsEncoding → ℕ → ℕ
name_room Utf16 n = (2 * n + 3) / 4 * 4
name_room page n = n

-- the name at the start, and what follows it: a number, a length and the name make it whole
abbrev pub name_at : XlsEncoding → List ℕ → Option (Name × List ℕ)
name_at page bytes =
    u32_at bytes 0 >>= λ number. u32_at bytes 4 >>= λ n.
    bytes_at bytes 8 (name_size page n) >>= λ name.
    Some ((number, paged_text page name), drop (8 + name_room page n) bytes)

-- a name, and those that others reads from what follows
abbrev pub name_and : (List ℕ → List Name) → Option (Name × List ℕ) → List Name
name_and others None = []
name_and others (Some x) = x.0 ∷ others x.1

-- at most n names, up to the first that isn't whole
abbrev pub names_from : ℕ → XlsEncoding → List ℕ → List Name
names_from zero page bytes = []
names_from (suc n) page bytes = name_and (λ rest. names_from n page rest) (name_at page bytes)

-- a count and so many names
abbrev pub counted_names : XlsEncoding → List ℕ → Option ℕ → List Name
counted_names page bytes None = []
counted_names page bytes (Some n) = names_from n page bytes

-- the dictionary at a place
abbrev pub names_at : XlsEncoding → List ℕ → ℕ → List Name
names_at page s at = counted_names page (drop (at + 4) s) (u32_at s at)

-- a name as the code has it
abbrev pub name_view : {Z : Type 0} → ℕ × String Z → Name
name_view n = (n.0, string_bytes n.1)

-- the map has for each number the name that was given to it last, and nothing else
abbrev pub HasNames : {Z : Type 0} → BTreeMap ℕ (String Z) → List Name → Type 0
HasNames m ns = (number : ℕ) → option_map string_bytes (get nat_cmp m number) ≡ last_of number ns
