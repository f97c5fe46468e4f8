-- Laws over streams.
use Rattle.std.specs.Prelude.{◌≡◌, ◌↔◌, ℕ, List, Option}
use Rattle.xls_stream.specs.Stream.{Group, Run}
use Rattle.xls_stream.specs.Walks.{IsBytes, IsOver, Groups}
use Rattle.xls_stream.specs.Substreams.{SheetPart, GlobalsPart}
use Rattle.xls_stream.specs.Counting.{From, found_from, globals_of}
use Rattle.xls_stream.specs.declared.part.Part.{Part}

-- each list of bytes is some groups, and then it is over
abbrev pub HasRun : Type 0
HasRun = (bytes : List ℕ) → IsBytes bytes → (gs : List Group) × (rest : List ℕ) × Run bytes gs rest
    × IsOver rest

-- and no others
abbrev pub OneRun : Type 0
OneRun = (bytes : List ℕ) (gs hs : List Group) (r s : List ℕ) → Run bytes gs r → Run bytes hs s
    → IsOver r → IsOver s → (gs ≡ hs) × (r ≡ s)

-- each list of bytes is some groups and ends in some way
abbrev pub HasGroups : Type 0
HasGroups = (bytes : List ℕ) → IsBytes bytes → (groups : List Group) × (stop : Option Part)
    × Groups bytes groups stop

-- and in no other
abbrev pub OneGroups : Type 0
OneGroups = (bytes : List ℕ) (gs hs : List Group) (s t : Option Part) → Groups bytes gs s
    → Groups bytes hs t → (gs ≡ hs) × (s ≡ t)

-- the grammar of a sheet part and the count of open substreams find the same
abbrev pub SameParts : Type 0
SameParts = (bytes : List ℕ) (kept : List Group) (cut : Option Part) → IsBytes bytes
    → SheetPart bytes kept cut ↔ From (found_from 0) bytes kept cut

-- likewise the globals with their first EOF and the walk to the end
abbrev pub SameGlobals : Type 0
SameGlobals = (bytes : List ℕ) (groups : List Group) (cut : Option Part) → IsBytes bytes
    → GlobalsPart bytes groups cut ↔ From globals_of bytes groups cut

-- a list of bytes begins with some part of this kind, whole or broken, and with no other
pub record HasOne (IsPart : List ℕ → List Group → Option Part
    → Type 0) (bytes : List ℕ) : Type 0 where
  pub some : (groups : List Group) × (cut : Option Part) × IsPart bytes groups cut
  pub same : (gs hs : List Group) (c d : Option Part) → IsPart bytes gs c → IsPart bytes hs d
      → (gs ≡ hs) × (c ≡ d)

abbrev pub OneSheetPart : Type 0
OneSheetPart = (bytes : List ℕ) → IsBytes bytes → HasOne SheetPart bytes

abbrev pub OneGlobalsPart : Type 0
OneGlobalsPart = (bytes : List ℕ) → IsBytes bytes → HasOne GlobalsPart bytes
