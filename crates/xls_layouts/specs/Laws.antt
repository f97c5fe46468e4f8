-- Laws over layouts.
use Rattle.std.specs.Prelude.{◌≡◌, ◌↔◌, ℕ, ◌<◌, ◌^◌, List, length, map, Result, Ok, Err}
use Rattle.std.specs.List.{AllByRecursion}
use Rattle.std.specs.Char.Utf16.{utf16_lossy_chars}
use Rattle.xls_stream.specs.Stream.{Group}
use Rattle.xls_stream.specs.StringTable.{Mark, next_at, Table}
use Rattle.xls_stream.specs.Listing.{ListEntry, Carries}
use Rattle.xls_record.specs.declared.error.XlsError.{XlsError}
use Rattle.xls_record.specs.declared.error.XlsError.TheVariants as errors
use Rattle.xls_strings.specs.Sst.{ReadsTable, CountsTable, InTable, sst_marks}
use Rattle.xls_layouts.specs.TableGrammar.{IsElement, IsStringTable}
use Rattle.xls_layouts.specs.LaidStrings.{LaidString, IsLaidString, marks_of_strings, lists_of, table_group, IsLaidTable}
use Rattle.xls_layouts.specs.Layout.{Layout, lay, list_of, IsLayout}
use Rattle.xls_layouts.specs.Canonical.{canonical, Fits}

-- ---- string tables

-- what is read as the next string is an element of the grammar, and each element is read so
abbrev pub SameElements : Type 0
SameElements = (ms : List Mark) (units : List ℕ) (after : List Mark)
    → (next_at ms ≡ Ok (units, after)) ↔ IsElement ms units after

-- so both tell the same tables
abbrev pub SameTables : Type 0
SameTables = (ms : List Mark) (strings : List (List ℕ)) → Table ms strings ↔ IsStringTable ms strings

-- laid strings are a table of their unit lists
abbrev pub LaidStrings : Type 0
LaidStrings = (strings : List LaidString) → AllByRecursion IsLaidString strings
    → IsStringTable (marks_of_strings strings) (lists_of strings)

-- the SST record of a laid table
abbrev pub laid_group : List ℕ → List LaidString → Group
laid_group first strings = table_group first (marks_of_strings strings)

-- the texts of these strings, unless memory ran out
abbrev pub GivesTexts : List LaidString → Result (List (List ℕ)) XlsError → Type 0
GivesTexts strings (Ok texts) = texts ≡ map utf16_lossy_chars (lists_of strings)
GivesTexts strings (Err errors.Memory) = Unit {0}
GivesTexts strings (Err e) = ⊥

-- what a reader of string tables answers over a laid table is the texts of its strings
abbrev pub LaidTexts : Type 0
LaidTexts = (first : List ℕ) (strings : List LaidString) → IsLaidTable first strings
    → (result : Result (List (List ℕ)) XlsError)
    → InTable ReadsTable (sst_marks (laid_group first strings).body (laid_group first strings).tail) result
    → GivesTexts strings result

-- what one answers that counts them is their number
abbrev pub LaidCount : Type 0
LaidCount = (first : List ℕ) (strings : List LaidString) → IsLaidTable first strings
    → (result : Result ℕ XlsError)
    → InTable CountsTable (sst_marks (laid_group first strings).body (laid_group first strings).tail) result
    → result ≡ Ok (length strings)

-- ---- streams

-- the bytes of a valid layout carry its list
abbrev pub LaidStream : Type 0
LaidStream = (d : Layout) → IsLayout d → Carries (lay d) (list_of d)

-- and no other
abbrev pub LaidAlone : Type 0
LaidAlone = (d : Layout) → IsLayout d → (entries : List ListEntry) → Carries (lay d) entries → entries ≡ list_of d

-- a list that has a valid layout fits
abbrev pub LaidFits : Type 0
LaidFits = (d : Layout) → IsLayout d → Fits (list_of d)

-- the canonical layout of a list that fits, where its bytes have offsets of 32 bits, is a valid layout
-- of that list
abbrev pub CanonicalLayout : Type 0
CanonicalLayout = (list : List ListEntry) → Fits list → length (lay (canonical list)) < 2 ^ 32
    → IsLayout (canonical list) × (list_of (canonical list) ≡ list)
