-- Lines of JSON, RFC 8259. How a string is written is told by the kit's crate `json`.
use Rattle.std.specs.Prelude.{◌≡◌, ◌⊎◌, ℕ, Bool, false, nat_lt, nat_le, if◌then◌else◌, List, ◌++◌, codes}
use Rattle.std.specs.Fmt.{decimal, signed_decimal}
use Rattle.json.specs.Print.{IsNumber, escape_letter, quoted}
use Rattle.xls_data.specs.Data.{bool_text}
use Rattle.xls_data.specs.Errors.{error_text}
use Rattle.xls_decimals.specs.Decimals.{IsDecimal}
use Rattle.xls_decimals.specs.Moments.{IsDateOrDuration}
use Rattle.xls_output.specs.Each.{Concatenates}
use Rattle.xls_readable.specs.Items.{FieldItem, NamedItem, word, text, count, int, number, truth, moment, failure, unknown}

-- a byte of a string that stands for itself
abbrev pub is_plain : ℕ → Bool
is_plain b = if nat_lt 0 (escape_letter b) then false else nat_le 32 b

-- a number of JSON as it is, every other text as a string
abbrev pub IsBare : List ℕ → List ℕ → Type 0
IsBare plain out = (IsNumber plain × (out ≡ plain)) ⊎ ((IsNumber plain → ⊥) × (out ≡ quoted plain))

-- a field: numbers as they are, where they are numbers of JSON; truth values; `null` for what isn't known; every other
-- one as a string
abbrev pub IsItemJson : FieldItem → List ℕ → Type 0
IsItemJson (word w) out = out ≡ quoted w
IsItemJson (text t) out = out ≡ quoted t
IsItemJson (count n) out = out ≡ decimal n
IsItemJson (int n) out = out ≡ signed_decimal n
IsItemJson (number n) out = (plain : List ℕ) × IsDecimal n plain × IsBare plain out
IsItemJson (truth b) out = out ≡ bool_text b
IsItemJson (moment d) out = (plain : List ℕ) × IsDateOrDuration d plain × (out ≡ quoted plain)
IsItemJson (failure e) out = out ≡ quoted (error_text e)
IsItemJson unknown out = out ≡ codes "null"

-- a member of an object, after a comma
abbrev pub IsMember : NamedItem → List ℕ → Type 0
IsMember m out =
    (displayed : List ℕ) × IsItemJson m.1 displayed × (out ≡ codes "," ++ (quoted m.0 ++ (codes ":" ++ displayed)))

-- an object on a line: the line's word under the name `line`, and its fields under theirs
abbrev pub IsJsonLine : List ℕ → List NamedItem → List ℕ → Type 0
IsJsonLine kind members out =
    (fields : List ℕ) × Concatenates IsMember members fields
    × (out ≡ codes "{\"line\":" ++ (quoted kind ++ (fields ++ codes "}\n")))
