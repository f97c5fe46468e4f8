-- The string table of an SST record ([MS-XLS] 2.4.265) as a grammar of marked bytes, told by
-- concatenation; | is a mark, which stands before each attached body. `xls_stream` tells the same
-- table in the order in which it is read.
--
--   Table   nothing; or an element, Table
--   element Str; or |, Str; or | directly before another | or the end, which is the empty string
--   Str     a head, Units (cch, fHighByte), Tail (4 * cRun + cbExtRst)
--           (XLUnicodeRichExtendedString, 2.5.293)
--   head    two bytes of cch, a flags byte, two bytes of cRun if fRichSt, four of cbExtRst if fExtSt
--   Units   nothing, where none is left; or a unit of one byte, or of two if they are wide, and Units
--           of one less; or |, a flags byte, and Units of the width that it sets
--   Tail    nothing, where no byte is left; or a byte, and Tail of one less; or |, Tail
use Rattle.std.specs.Prelude.{◌≡◌, ◌⊎◌, ℕ, suc, ◌+◌, ◌*◌, ◌<◌, ◌^◌, List, [], ◌∷◌, ◌++◌, length, map, Bool, true, false, if◌then◌else◌, Some, None}
use Rattle.std.specs.List.{flat_map}
use Rattle.xls_bytes.specs.Numbers.{le}
use Rattle.xls_stream.specs.StringTable.{Mark, is_wide, has_runs, has_extension}

-- ---- units

-- a unit of one byte or of two, or the flags byte of a new piece
pub data UnitStep : Type 0 where
  one_byte : (b : ℕ) → UnitStep
  two_bytes : (low high : ℕ) → UnitStep
  flags_byte : (flags : ℕ) → UnitStep

abbrev pub marks_of_step : UnitStep → List Mark
marks_of_step (one_byte b) = Some b ∷ []
marks_of_step (two_bytes low high) = Some low ∷ Some high ∷ []
marks_of_step (flags_byte flags) = None ∷ Some flags ∷ []

abbrev pub marks_of_units : List UnitStep → List Mark
marks_of_units steps = flat_map marks_of_step steps

abbrev pub units_in : List UnitStep → List ℕ
units_in [] = []
units_in (one_byte b ∷ steps) = b ∷ units_in steps
units_in (two_bytes low high ∷ steps) = (low + 256 * high) ∷ units_in steps
units_in (flags_byte flags ∷ steps) = units_in steps

-- Units of this number and width
abbrev pub AreUnits : ℕ → Bool → List UnitStep → Type 0
AreUnits n wide [] = n ≡ 0
AreUnits n wide (one_byte b ∷ steps) =
    (wide ≡ false) × (m : ℕ) × (n ≡ suc m) × AreUnits m wide steps
AreUnits n wide (two_bytes low high ∷ steps) =
    (wide ≡ true) × (m : ℕ) × (n ≡ suc m) × AreUnits m wide steps
AreUnits n wide (flags_byte flags ∷ steps) = (0 < n) × AreUnits n (is_wide flags) steps

-- ---- a string

-- Tail of so many bytes
abbrev pub IsTail : ℕ → List Mark → Type 0
IsTail k [] = k ≡ 0
IsTail k (None ∷ ms) = (0 < k) × IsTail k ms
IsTail k (Some b ∷ ms) = (m : ℕ) × (k ≡ suc m) × IsTail m ms

-- the marked bytes are Str of these units, and then what stands after it
pub record Str (ms : List Mark) (units : List ℕ) (after : List Mark) : Type 0 where
  pub count : List ℕ
  pub flags : ℕ
  pub runs : List ℕ
  pub extension : List ℕ
  pub steps : List UnitStep
  pub tail : List Mark
  pub whole : ms ≡ map Some (count ++ flags ∷ (runs ++ extension)) ++ (marks_of_units steps ++ (tail ++ after))
  pub count_len : length count ≡ 2
  pub runs_len : length runs ≡ (if has_runs flags then 2 else 0)
  pub extension_len : length extension ≡ (if has_extension flags then 4 else 0)
  pub not_negative : le extension < 2 ^ 31
  pub are_units : AreUnits (le count) (is_wide flags) steps
  pub is_tail : IsTail (4 * le runs + le extension) tail
  pub units_are : units ≡ units_in steps

-- ---- a table

-- a mark or the end
abbrev pub StartsNoByte : List Mark → Type 0
StartsNoByte [] = Unit {0}
StartsNoByte (None ∷ ms) = Unit {0}
StartsNoByte (Some b ∷ ms) = ⊥

abbrev pub IsElement : List Mark → List ℕ → List Mark → Type 0
IsElement ms units after =
    Str ms units after
    ⊎ ((piece : List Mark) × (ms ≡ None ∷ piece) × Str piece units after)
    ⊎ ((ms ≡ None ∷ after) × (units ≡ []) × StartsNoByte after)

-- the marked bytes are Table of these strings
abbrev pub IsStringTable : List Mark → List (List ℕ) → Type 0
IsStringTable ms [] = ms ≡ []
IsStringTable ms (units ∷ strings) = (after : List Mark) × IsElement ms units after × IsStringTable after strings
