-- What the steps over marked bytes give.
use Rattle.std.specs.Prelude.{◌≡◌, ℕ, List, [], ◌∷◌, ◌++◌, Bool, true, false, Option, Some, None, Result, Ok, Err, ◌⊎◌}
use Rattle.xls_stream.specs.StringTable.{Mark, is_wide, units_at, tail_at, tail_of}
use Rattle.xls_stream.specs.declared.part.Part.TheVariants.{Dbcs}
use Rattle.xls_record.specs.declared.error.XlsError.{XlsError}
use Rattle.xls_record.specs.declared.error.XlsError.TheVariants as errors

-- no byte stands before the next mark
abbrev pub IsAtMark : List Mark → Type 0
IsAtMark [] = Unit {0}
IsAtMark (None ∷ ms) = Unit {0}
IsAtMark (Some b ∷ ms) = ⊥

-- no mark is next
abbrev pub IsPastMark : List Mark → Type 0
IsPastMark [] = Unit {0}
IsPastMark (None ∷ ms) = ⊥
IsPastMark (Some b ∷ ms) = Unit {0}

-- a byte was taken, or none stands before the next mark
abbrev pub TakesByte : List Mark → Option ℕ → List Mark → Type 0
TakesByte before (Some b) after = before ≡ Some b ∷ after
TakesByte before None after = (after ≡ before) × IsAtMark before

-- a mark was taken, or none is next
abbrev pub TakesMark : List Mark → Bool → List Mark → Type 0
TakesMark before true after = before ≡ None ∷ after
TakesMark before false after = (after ≡ before) × IsPastMark before

-- the high byte of a unit was taken, which is 0 in a unit of one byte
abbrev pub TakesHigh : Bool → List Mark → Option ℕ → List Mark → Type 0
TakesHigh true before r after = TakesByte before r after
TakesHigh false before r after = (r ≡ Some 0) × (after ≡ before)

-- a mark and a flags byte were taken, or they aren't there
abbrev pub TakesWidth : List Mark → Option Bool → List Mark → Type 0
TakesWidth before (Some w) after = (flags : ℕ) × (before ≡ None ∷ Some flags ∷ after) × (w ≡ is_wide flags)
TakesWidth before None after = IsPastMark before ⊎ ((ms : List Mark) × (before ≡ None ∷ ms) × IsAtMark ms)

-- the units were added, or aren't there
abbrev pub TakesUnits : ℕ → Bool → List Mark → List ℕ → Result (Unit {0}) XlsError → List ℕ → List Mark → Type 0
TakesUnits count wide before old (Ok u) new after = (units : List ℕ) × (new ≡ old ++ units) × (units_at count wide before ≡ Some (units, after))
TakesUnits count wide before old (Err errors.Memory) new after = Unit {0}
TakesUnits count wide before old (Err e) new after = (e ≡ errors.EoStream Dbcs) × (units_at count wide before ≡ None)

-- the bytes were passed, or aren't there
abbrev pub SkipsTail : ℕ → List Mark → Result (Unit {0}) XlsError → List Mark → Type 0
SkipsTail count before (Ok u) after = tail_at count before ≡ Some after
SkipsTail count before (Err e) after = (e ≡ errors.ContinueRecordTooShort) × (tail_at count before ≡ None)

-- the units were passed, or aren't there
abbrev pub SkipsUnits : ℕ → Bool → List Mark → Result (Unit {0}) XlsError → List Mark → Type 0
SkipsUnits count wide before (Ok u) after = (units : List ℕ) × (units_at count wide before ≡ Some (units, after))
SkipsUnits count wide before (Err e) after = (e ≡ errors.EoStream Dbcs) × (units_at count wide before ≡ None)

-- likewise where a negative length has no bytes after it
abbrev pub SkipsAfter : Option ℕ → List Mark → Result (Unit {0}) XlsError → List Mark → Type 0
SkipsAfter following before (Ok u) after = tail_of following before ≡ Some after
SkipsAfter following before (Err e) after = (e ≡ errors.ContinueRecordTooShort) × (tail_of following before ≡ None)
