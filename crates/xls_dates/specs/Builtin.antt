-- Classes of the built-in number formats.
use Rattle.std.specs.Prelude.{ℕ, ◌+◌, ◌-◌, ◌*◌, nat_le, ◌==◌, ◌&&◌, ◌||◌, Bool, if◌then◌else◌, List, [], ◌∷◌}
use Rattle.xls_dates.specs.declared.formats.CellFormat.{CellFormat}
use Rattle.xls_dates.specs.declared.formats.CellFormat.TheVariants.{Other, DateTime, TimeDelta}

-- a number lies between two others, both included
abbrev pub between : ℕ → ℕ → ℕ → Bool
between low high n = nat_le low n && nat_le n high

-- 14 to 22, 27 to 36, 45, 47 and 50 to 58 are dates
abbrev pub is_date_code : ℕ → Bool
is_date_code n = between 14 22 n || between 27 36 n || (n == 45) || (n == 47) || between 50 58 n

-- the class of a code
abbrev pub class_of_code : ℕ → CellFormat
class_of_code n = if is_date_code n then DateTime else if n == 46 then TimeDelta else Other

-- the class of two digits, the first not 0; every other text is no code of a date or duration
abbrev pub class_of_id : List ℕ → CellFormat
class_of_id (tens ∷ ones ∷ []) =
    if between 49 57 tens && between 48 57 ones
    then class_of_code ((tens - 48) * 10 + (ones - 48)) else Other
class_of_id _ = Other
