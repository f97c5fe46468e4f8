-- What stands in the bytes of a workbook stream, and the logical list that they carry.
use Rattle.std.specs.Prelude.{◌≡◌, ℕ, ◌<◌, ◌≤◌, List, [], ◌∷◌, map, length, take, drop, slice_index, Bool, true, not, ◌||◌, ◌==◌, Option, Some, None, ◌⊎◌}
use Rattle.std.specs.List.{filter, AllZip, AllByRecursion}
use Rattle.xls_bytes.specs.Numbers.{le}
use Rattle.xls_stream.specs.Stream.{Group}
use Rattle.xls_stream.specs.Walks.{IsBytes}
pub use Rattle.xls_stream.specs.Substreams.{is_among, sheet_types}
use Rattle.xls_stream.specs.Substreams.{SheetPart, GlobalsPart}
use Rattle.xls_stream.specs.StringTable.{Missing, marked, Table, TableFault}
use Rattle.xls_stream.specs.declared.part.Part.{Part}
use Rattle.xls_stream.specs.declared.part.Part.TheVariants.{SheetOffset}
use Rattle.xls_stream.specs.declared.types.TheConstants as types

-- ---- a sheet part

-- a kept record of a sheet: its type and its body
pub record Kept : Type 0 where
  pub typ : ℕ
  pub body : List ℕ

abbrev pub kept_group : Group → Kept
kept_group g = record { typ = g.typ; body = g.body }

-- attached bodies are dropped
abbrev pub kept_of : List Group → List Kept
kept_of gs = map kept_group gs

-- the grammar of a sheet part finds these kept records and this cut
abbrev pub IsPart : List ℕ → List Kept → Option Part → Type 0
IsPart part kept cut = (groups : List Group) × SheetPart part groups cut × (kept ≡ kept_of groups)

-- likewise the part at this offset; one past the end is none, and cut there
abbrev pub IsSheetPart : List ℕ → ℕ → List Kept → Option Part → Type 0
IsSheetPart bytes offset kept cut =
    ((offset ≤ length bytes) × IsPart (drop offset bytes) kept cut)
    ⊎ ((length bytes < offset) × (kept ≡ []) × (cut ≡ Some SheetOffset))

-- ---- the string table

-- what an SST record ([MS-XLS] 2.4.265) and the bodies attached to it hold: too few bytes for the two
-- numbers at their start; or strings, as lists of units; or what isn't there first
pub data Shared : Type 0 where
  no_table : Shared
  table_of : (strings : List (List ℕ)) → Shared
  table_without : (missing : Missing) → Shared

abbrev pub IsShared : Group → Shared → Type 0
IsShared g no_table = length g.body < 8
IsShared g (table_of strings) = (8 ≤ length g.body) × Table (marked (drop 8 g.body) g.tail) strings
IsShared g (table_without missing) =
    (8 ≤ length g.body) × TableFault (marked (drop 8 g.body) g.tail) missing

-- ---- the globals

abbrev pub globals_types : List ℕ
globals_types = types.BOF ∷ types.FILE_PASS ∷ types.CODE_PAGE ∷ types.DATE_MODE ∷ types.FORMAT ∷ types.XF ∷ types.LBL ∷ types.EXTERN_SHEET ∷ types.SST ∷ types.BOUND_SHEET_8 ∷ []

abbrev pub is_globals_type : Group → Bool
is_globals_type g = is_among g.typ globals_types

-- where the part of a BoundSheet8's sheet begins
abbrev pub offset_at : List ℕ → ℕ
offset_at body = le (take 4 body)

-- a record of the globals; or an SST with what it holds; or a BoundSheet8 with what its part has and
-- how that is cut
pub data Item : Type 0 where
  plain_item : (typ : ℕ) (body : List ℕ) → Item
  table_item : (body : List ℕ) (shared : Shared) → Item
  sheet_item : (body : List ℕ) (kept : List Kept) (cut : Option Part) → Item

-- the types whose records have items of their own
abbrev pub is_plain_type : ℕ → Bool
is_plain_type typ = not (typ == types.SST || typ == types.BOUND_SHEET_8)

abbrev pub IsItem : List ℕ → Group → Item → Type 0
IsItem bytes g (plain_item typ body) =
    (is_plain_type g.typ ≡ true) × (typ ≡ g.typ) × (body ≡ g.body)
IsItem bytes g (table_item body shared) = (g.typ ≡ types.SST) × (body ≡ g.body) × IsShared g shared
IsItem bytes g (sheet_item body kept cut) =
    (g.typ ≡ types.BOUND_SHEET_8) × (body ≡ g.body) × IsSheetPart bytes (offset_at g.body) kept cut

-- the records of the globals with their sheets, and how the globals are cut
pub record Holds (bytes : List ℕ) (items : List Item) (cut : Option Part) : Type 0 where
  pub groups : List Group
  pub globals : GlobalsPart bytes groups cut
  pub items_are : AllZip (IsItem bytes) (filter is_globals_type groups) items

-- ---- the logical list

-- a plain record of the globals; or a string table; or a sheet, by bytes 4 and 5 and the bytes from 6
-- of its BoundSheet8 ([MS-XLS] 2.4.28), and its kept records
pub data ListEntry : Type 0 where
  plain_entry : (typ : ℕ) (body : List ℕ) → ListEntry
  table_entry : (strings : List (List ℕ)) → ListEntry
  sheet_entry : (state kind : ℕ) (name : List ℕ) (kept : List Kept) → ListEntry

-- the strings of a table that is whole
abbrev pub strings_in : Shared → List (List ℕ)
strings_in no_table = []
strings_in (table_of strings) = strings
strings_in (table_without missing) = []

abbrev pub entry_of : Item → ListEntry
entry_of (plain_item typ body) = plain_entry typ body
entry_of (table_item body shared) = table_entry (strings_in shared)
entry_of (sheet_item body kept cut) =
    sheet_entry (slice_index body 4) (slice_index body 5) (drop 6 body) kept

abbrev pub IsWholeTable : Shared → Type 0
IsWholeTable no_table = ⊥
IsWholeTable (table_of strings) = Unit {0}
IsWholeTable (table_without missing) = ⊥

-- a table is whole; a sheet's BoundSheet8 is long enough, and its part isn't cut
abbrev pub IsWholeItem : Item → Type 0
IsWholeItem (plain_item typ body) = Unit {0}
IsWholeItem (table_item body shared) = IsWholeTable shared
IsWholeItem (sheet_item body kept cut) = (6 ≤ length body) × (cut ≡ None)

-- the stream carries this list
pub record Carries (bytes : List ℕ) (entries : List ListEntry) : Type 0 where
  pub items : List Item
  pub holds : Holds bytes items None
  pub whole : AllByRecursion IsWholeItem items
  pub entries_are : entries ≡ map entry_of items

-- ---- laws

-- a stream holds some items and ends in some way
abbrev pub HasHolding : Type 0
HasHolding = (bytes : List ℕ) → IsBytes bytes → (items : List Item) × (cut : Option Part)
    × Holds bytes items cut

-- and no others
abbrev pub OneHolding : Type 0
OneHolding = (bytes : List ℕ) → IsBytes bytes → (is js : List Item) (c d : Option Part)
    → Holds bytes is c → Holds bytes js d → (is ≡ js) × (c ≡ d)

-- a stream carries at most one list
abbrev pub OneList : Type 0
OneList = (bytes : List ℕ) → IsBytes bytes → (l m : List ListEntry) → Carries bytes l → Carries bytes m
    → l ≡ m
