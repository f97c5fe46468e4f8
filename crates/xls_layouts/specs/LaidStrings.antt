-- Layouts of a string table: where Continue pieces begin, how wide units are written, and what stands
-- after the units of a string.
use Rattle.std.specs.Prelude.{◌≡◌, ℕ, suc, ◌+◌, ◌*◌, ◌/◌, ◌%◌, ◌<◌, ◌^◌, List, [], ◌∷◌, ◌++◌, length, map, Bool, true, false, Option, Some, None}
use Rattle.std.specs.List.{flat_map, AllByRecursion}
use Rattle.xls_bytes.specs.Numbers.{le16}
use Rattle.xls_stream.specs.Stream.{Group, IsGroup}
use Rattle.xls_stream.specs.StringTable.{Mark, prefix_of}
use Rattle.xls_stream.specs.declared.types.TheConstants as types

-- a number of 32 bits as four bytes
abbrev pub le32 : ℕ → List ℕ
le32 n = n % 256 ∷ n / 256 % 256 ∷ n / 65536 % 256 ∷ n / 16777216 ∷ []

-- ---- units

-- a unit; or a cut with the flags byte of the new piece, by which the units are wide or not from there on
pub data Step : Type 0 where
  put : (u : ℕ) → Step
  cut : (wide : Bool) → Step

-- fHighByte
abbrev pub wide_bit : Bool → ℕ
wide_bit true = 1
wide_bit false = 0

abbrev pub unit_bytes : Bool → ℕ → List ℕ
unit_bytes true u = le16 u
unit_bytes false u = u ∷ []

abbrev pub marks_of_steps : Bool → List Step → List Mark
marks_of_steps wide [] = []
marks_of_steps wide (put u ∷ steps) = map Some (unit_bytes wide u) ++ marks_of_steps wide steps
marks_of_steps wide (cut next ∷ steps) = None ∷ Some (wide_bit next) ∷ marks_of_steps next steps

abbrev pub units_of_steps : List Step → List ℕ
units_of_steps [] = []
units_of_steps (put u ∷ steps) = u ∷ units_of_steps steps
units_of_steps (cut next ∷ steps) = units_of_steps steps

-- a unit is written in one byte only where it is below 256
abbrev pub FitsWidth : Bool → ℕ → Type 0
FitsWidth true u = u < 2 ^ 16
FitsWidth false u = u < 2 ^ 8

-- a cut stands before a remaining unit
abbrev pub AreSteps : Bool → List Step → Type 0
AreSteps wide [] = Unit {0}
AreSteps wide (put u ∷ steps) = FitsWidth wide u × AreSteps wide steps
AreSteps wide (cut next ∷ steps) = (0 < length (units_of_steps steps)) × AreSteps next steps

-- ---- runs and extension

-- the bytes of runs and extension, with a mark at each cut
abbrev pub bytes_in : List Mark → ℕ
bytes_in [] = 0
bytes_in (None ∷ ms) = bytes_in ms
bytes_in (Some b ∷ ms) = suc (bytes_in ms)

abbrev pub StartsByte : List Mark → Type 0
StartsByte [] = ⊥
StartsByte (None ∷ ms) = ⊥
StartsByte (Some b ∷ ms) = Unit {0}

-- a cut stands before a remaining byte, and no piece is empty
abbrev pub IsCutWell : List Mark → Type 0
IsCutWell [] = Unit {0}
IsCutWell (None ∷ ms) = StartsByte ms × IsCutWell ms
IsCutWell (Some b ∷ ms) = IsCutWell ms

-- ---- a string

-- a string as it is laid: whether a piece begins with it; whether its units are wide up to the first
-- cut; how many runs and extension bytes it says that it has, if it says so; its units and cuts; and
-- the bytes of runs and extension
pub record LaidString : Type 0 where
  pub begins_piece : Bool
  pub wide : Bool
  pub runs : Option ℕ
  pub extension : Option ℕ
  pub steps : List Step
  pub following : List Mark

abbrev pub code_units : LaidString → List ℕ
code_units s = units_of_steps s.steps

-- this bit of the flags byte if there is such a number
abbrev pub bit_of : Option ℕ → ℕ → ℕ
bit_of None bit = 0
bit_of (Some n) bit = bit

abbrev pub runs_bytes : Option ℕ → List ℕ
runs_bytes None = []
runs_bytes (Some n) = le16 n

abbrev pub extension_bytes : Option ℕ → List ℕ
extension_bytes None = []
extension_bytes (Some n) = le32 n

abbrev pub number_or_zero : Option ℕ → ℕ
number_or_zero None = 0
number_or_zero (Some n) = n

-- cch; a flags byte with no bit but 01, 04 and 08; cRun and cbExtRst
abbrev pub head_bytes : Bool → ℕ → Option ℕ → Option ℕ → List ℕ
head_bytes wide count runs extension =
    le16 count ++ (wide_bit wide + bit_of extension 4 + bit_of runs 8) ∷ (runs_bytes runs ++ extension_bytes extension)

abbrev pub marks_of_break : Bool → List Mark
marks_of_break true = None ∷ []
marks_of_break false = []

abbrev pub marks_of_string : LaidString → List Mark
marks_of_string s =
    marks_of_break s.begins_piece
    ++ (map Some (head_bytes s.wide (length (code_units s)) s.runs s.extension) ++ (marks_of_steps s.wide s.steps ++ s.following))

-- at most 65,535 units and as many runs, each of four bytes; at most 2 ^ 31 - 1 extension bytes
pub record IsLaidString (s : LaidString) : Type 0 where
  pub count : length (code_units s) < 2 ^ 16
  pub steps : AreSteps s.wide s.steps
  pub runs : number_or_zero s.runs < 2 ^ 16
  pub extension : number_or_zero s.extension < 2 ^ 31
  pub cut_well : IsCutWell s.following
  pub all_after : bytes_in s.following ≡ 4 * number_or_zero s.runs + number_or_zero s.extension

-- ---- a table

abbrev pub marks_of_strings : List LaidString → List Mark
marks_of_strings strings = flat_map marks_of_string strings

abbrev pub lists_of : List LaidString → List (List ℕ)
lists_of strings = map code_units strings

-- the pieces after the first: one for each mark
abbrev pub pieces_of : List Mark → List (List ℕ)
pieces_of [] = []
pieces_of (None ∷ ms) = prefix_of ms ∷ pieces_of ms
pieces_of (Some b ∷ ms) = pieces_of ms

-- the SST record with its Continue records: eight bytes, and the marked bytes
abbrev pub table_group : List ℕ → List Mark → Group
table_group first ms = record { typ = types.SST; body = first ++ prefix_of ms; tail = pieces_of ms }

-- eight bytes, valid strings, and bodies that have a length of 16 bits
pub record IsLaidTable (first : List ℕ) (strings : List LaidString) : Type 0 where
  pub eight : length first ≡ 8
  pub are_laid : AllByRecursion IsLaidString strings
  pub fits : IsGroup (table_group first (marks_of_strings strings))
