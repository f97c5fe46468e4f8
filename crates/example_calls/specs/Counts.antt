-- How many strings the first string table of a stream has.
use Rattle.std.specs.Prelude.{◌≡◌, ◌≢◌, ◌⊎◌, ℕ, List, [], ◌∷◌, length, drop, Err}
use Rattle.xls_stream.specs.Cut.{Cut}
use Rattle.xls_stream.specs.Stream.{Group, Begins, Run}
use Rattle.xls_stream.specs.StringTable.{Table, marked}
use Rattle.xls_stream.specs.declared.part.Part.{Part}
use Rattle.xls_strings.specs.Sst.{InTable, ReadsTable, sst_marks}
use Rattle.xls_record.specs.declared.error.XlsError.{XlsError}
use Rattle.xls_record.specs.declared.error.XlsError.TheVariants.{EoStream}

-- none of them is an SST record ([MS-XLS] 2.4.265)
abbrev pub NoTable : List Group → Type 0
NoTable [] = Unit {0}
NoTable (g ∷ gs) = (g.typ ≢ 0x00FC) × NoTable gs

-- the table of an SST record, after two numbers of four bytes, has so many strings
abbrev pub HasStrings : Group → ℕ → Type 0
HasStrings g n =
    (strings : List (List ℕ)) × Table (marked (drop 8 g.body) g.tail) strings × (n ≡ length strings)

-- an SST record stands first and has so many strings
abbrev pub BeginsTable : List ℕ → ℕ → Type 0
BeginsTable bytes n =
    (g : Group) × (after : List ℕ) × Begins bytes g after × (g.typ ≡ 0x00FC) × HasStrings g n

-- the strings of the first SST record of a stream; none where it has no such record
abbrev pub IsCount : List ℕ → ℕ → Type 0
IsCount stream n =
    (before : List Group) × (rest : List ℕ) × Run stream before rest × NoTable before
    × (((rest ≡ []) × (n ≡ 0)) ⊎ BeginsTable rest n)

-- the table of an SST record is refused for this
abbrev pub RefusesTable : Group → XlsError → Type 0
RefusesTable g e = InTable ReadsTable (sst_marks g.body g.tail) (Err e)

-- an SST record stands first, and its table is refused for this
abbrev pub BeginsFaulty : List ℕ → XlsError → Type 0
BeginsFaulty bytes e =
    (g : Group) × (after : List ℕ) × Begins bytes g after × (g.typ ≡ 0x00FC) × RefusesTable g e

-- the first fault of a stream up to the table's end: a record that is cut, or one of the table, or out of memory there
abbrev pub IsRefusal : List ℕ → XlsError → Type 0
IsRefusal stream e =
    (before : List Group) × (rest : List ℕ) × Run stream before rest × NoTable before
    × (((p : Part) × (e ≡ EoStream p) × Cut rest p) ⊎ BeginsFaulty rest e)
