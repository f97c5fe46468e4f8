-- The places of a stream in order, and its first fault.
use Rattle.std.specs.Prelude.{◌≡◌, ℕ, ◌+◌, List, [], ◌∷◌, ◌++◌, map, length, if◌then◌else◌, nat_lt, Option, Some, None, Result, Ok, Err}
use Rattle.std.specs.Option.{option_map, option_or}
use Rattle.std.specs.List.{flat_map, AllByRecursion}
use Rattle.xls_stream.specs.Listing.{Kept, ListEntry, plain_entry, table_entry, sheet_entry, Item, plain_item, table_item, sheet_item, entry_of, Holds}
use Rattle.xls_stream.specs.declared.part.Part.{Part}
use Rattle.xls_record.specs.declared.error.XlsError.{XlsError}
use Rattle.xls_record.specs.declared.error.XlsError.TheVariants.{EoStream, TooLarge, TooManyCells}
use Rattle.xls_biff.specs.SheetTable.{CellContext, SheetRecord, weight_of}
use Rattle.xls_meaning.specs.Order.{map_with_earlier, first_of}
use Rattle.xls_meaning.specs.Settings.{page_in, version_in, line_in, cells_of}
use Rattle.xls_meaning.specs.GlobalsTable.{GlobalsLine, item_record_at, fault_of, forced_fault}
use Rattle.xls_meaning.specs.SheetTable.{kept_line}
use Rattle.xls_meaning.specs.Rules.{Rules}

-- ---- one place each

-- the byte limit
abbrev pub limit_fault : Rules → List ℕ → Option XlsError
limit_fault rules bytes =
    if nat_lt rules.max_bytes (length bytes) then Some (TooLarge rules.max_bytes) else None

-- the byte limit, and then the forced page
abbrev pub outer_fault : Rules → List ℕ → Option XlsError
outer_fault rules bytes = option_or (limit_fault rules bytes) (forced_fault rules.force_codepage)

-- a record of the globals, under those before it
abbrev pub item_line : Rules → List Item → Item → GlobalsLine
item_line rules before i =
    item_record_at rules.force_codepage (page_in rules (map entry_of before)) (version_in rules (map entry_of before)) i

abbrev pub item_fault : Rules → List Item → Item → Option XlsError
item_fault rules before i = fault_of (item_line rules before i)

-- a record with a fault weighs nothing
abbrev pub weight_from : Result SheetRecord XlsError → ℕ
weight_from (Ok g) = weight_of g
weight_from (Err e) = 0

-- the weights of these kept records
abbrev pub weight_in : CellContext → List Kept → ℕ
weight_in s [] = 0
weight_in s (k ∷ ks) = weight_from (kept_line s k) + weight_in s ks

-- these kept records weigh more than a sheet may
abbrev pub weight_fault : Rules → CellContext → List Kept → Option XlsError
weight_fault rules s ks =
    if nat_lt rules.max_cells (weight_in s ks) then Some (TooManyCells rules.max_cells) else None

-- a kept record, after those before it: its own fault, or too many cells with it
abbrev pub kept_fault : Rules → CellContext → List Kept → Kept → Option XlsError
kept_fault rules s before k =
    option_or (fault_of (kept_line s k)) (weight_fault rules s (before ++ k ∷ []))

abbrev pub cut_fault : Option Part → Option XlsError
cut_fault cut = option_map EoStream cut

-- ---- the places

-- the kept records of a sheet, and its cut, or that its offset passes the end
abbrev pub part_places : Rules → CellContext → List Kept → Option Part → List (Option XlsError)
part_places rules s kept cut = map_with_earlier (kept_fault rules s) [] kept ++ cut_fault cut ∷ []

abbrev pub sheet_places : Rules → CellContext → Item → List (Option XlsError)
sheet_places rules s (plain_item typ body) = []
sheet_places rules s (table_item body shared) = []
sheet_places rules s (sheet_item body kept cut) = part_places rules s kept cut

-- the records of the globals, and their cut
abbrev pub globals_places : Rules → List Item → Option Part → List (Option XlsError)
globals_places rules items cut = map_with_earlier (item_fault rules) [] items ++ cut_fault cut ∷ []

-- the globals, and then the sheets in order, under what is in force at the end of the globals
abbrev pub places : Rules → List Item → Option Part → List (Option XlsError)
places rules items cut =
    globals_places rules items cut
    ++ flat_map (sheet_places rules (cells_of rules (map entry_of items))) items

-- e is the fault of a place before which no place has one, where the byte limit and the forced page
-- have this fault
abbrev pub FirstAfter : Option XlsError → Rules → List ℕ → XlsError → Type 0
FirstAfter (Some f) rules bytes e = e ≡ f
FirstAfter None rules bytes e =
    (items : List Item) × (cut : Option Part) × Holds bytes items cut
    × (first_of (places rules items cut) ≡ Some e)

-- e is the fault of a place before which no place has one
abbrev pub FirstFault : Rules → List ℕ → XlsError → Type 0
FirstFault rules bytes e = FirstAfter (outer_fault rules bytes) rules bytes e

-- no place has a fault
abbrev pub IsSound : Rules → List ℕ → Type 0
IsSound rules bytes = (e : XlsError) → FirstFault rules bytes e → ⊥

-- ---- lists

-- an entry, under those before it
abbrev pub entry_fault : Rules → List ListEntry → ListEntry → Option XlsError
entry_fault rules before e = fault_of (line_in rules before e)

abbrev pub IsFullSheet : Rules → CellContext → ListEntry → Type 0
IsFullSheet rules s (plain_entry typ body) = Unit {0}
IsFullSheet rules s (table_entry strings) = Unit {0}
IsFullSheet rules s (sheet_entry state kind name kept) =
    first_of (map_with_earlier (kept_fault rules s) [] kept) ≡ None

-- the forced page is kept, and no entry and no kept record has a fault; a sheet's weight passing the
-- limit is a fault of a kept record
pub record IsFull (rules : Rules) (entries : List ListEntry) : Type 0 where
  pub forced : forced_fault rules.force_codepage ≡ None
  pub globals : first_of (map_with_earlier (entry_fault rules) [] entries) ≡ None
  pub sheets : AllByRecursion (IsFullSheet rules (cells_of rules entries)) entries
