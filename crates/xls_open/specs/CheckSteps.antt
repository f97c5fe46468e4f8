-- What the parts of a check answer: the globals, a sheet part, and all places.
use Rattle.std.specs.Prelude.{◌≡◌, ℕ, List, [], map, Option, None, Result, Ok, Err}
use Rattle.xls_stream.specs.Listing.{Kept, Item, entry_of, Holds}
use Rattle.xls_stream.specs.declared.part.Part.{Part}
use Rattle.xls_record.specs.declared.error.XlsError.{XlsError}
use Rattle.xls_record.specs.declared.version.Biff.{Biff}
use Rattle.xls_meaning.specs.Order.{map_with_earlier, first_of}
use Rattle.xls_meaning.specs.Settings.{version_in, Settings, settings_of}
use Rattle.xls_meaning.specs.GlobalsTable.{fault_of}
use Rattle.xls_meaning.specs.Faults.{item_fault, part_places, places}
use Rattle.xls_open.specs.Globals.{GlobalsFault}
use Rattle.xls_open.specs.Checking.{checked}
use Rattle.xls_meaning.specs.Rules.{Rules}
use Rattle.xls_open.specs.declared.check.CheckRules.{CheckRules}

abbrev pub under : CheckRules → Rules
under r = checked r.force_codepage r.max_cells

-- what is in force at the end of the globals
abbrev pub settings_checked : Rules → List Item → Settings
settings_checked rules items = settings_of rules (map entry_of items)

-- ---- the globals

-- the globals aren't cut and have no fault, and at their end this version is in force
pub record AreChecked (rules : Rules) (bytes : List ℕ) (version : Biff) : Type 0 where
  pub items : List Item
  pub holds : Holds bytes items None
  pub faultless : first_of (map_with_earlier (item_fault rules) [] items) ≡ None
  pub version_is : version ≡ version_in rules (map entry_of items)

abbrev pub ChecksGlobals : Rules → List ℕ → Result Biff XlsError → Type 0
ChecksGlobals rules bytes (Ok version) = AreChecked rules bytes version
ChecksGlobals rules bytes (Err e) = GlobalsFault rules bytes e

-- ---- the sheets

-- the first fault of a part, or that it has none
abbrev pub ChecksPart : (List Kept → Option Part → Type 0) → Rules → Settings → Result (Unit {0}) XlsError → Type 0
ChecksPart Stands rules s result =
    (kept : List Kept) × (cut : Option Part) × Stands kept cut
    × (first_of (part_places rules s.cells kept cut) ≡ fault_of result)

-- the first fault of all places, the byte limit and the forced page apart, or that none has one
abbrev pub ChecksPlaces : Rules → List ℕ → Result (Unit {0}) XlsError → Type 0
ChecksPlaces rules bytes result =
    (items : List Item) × (cut : Option Part) × Holds bytes items cut
    × (first_of (places rules items cut) ≡ fault_of result)
