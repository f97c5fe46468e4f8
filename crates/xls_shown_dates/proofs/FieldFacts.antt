-- Fields of codes, so that a wrong rule in the definitions does not check.
use Rattle.std.proofs.Common.{◌≡◌, ℕ, List, [], ◌∷◌, ◌++◌, map, replicate, refl, codes, Bool, true, false, Some}
use Rattle.xls_number_formats.specs.declared.items.Condition.{Condition}
use Rattle.xls_number_formats.specs.declared.items.Item.TheVariants as item
use Rattle.xls_number_formats.specs.Grammar.{items}
use Rattle.xls_shown_dates.specs.declared.moments.Precision.{Precision}
use Rattle.xls_shown_dates.specs.declared.moments.Precision.TheVariants as precision
use Rattle.xls_shown_dates.specs.declared.fields.Field.{Field}
use Rattle.xls_shown_dates.specs.declared.fields.Field.TheVariants.{Own, Year, FullYear, BuddhistYear, Nothing, Month, Day, Hours, Minutes, Seconds, ElapsedHours, ElapsedMinutes, ElapsedSeconds, Tenths, Hundredths, Thousandths, HalfDay, HalfDayLetter}
use Rattle.xls_shown_dates.specs.declared.clocks.Clock.{Clock}
use Rattle.xls_shown_dates.specs.Fields.{fields, zeros_after, clock_of, precision_of}

abbrev fields_in : List ℕ → List Field
fields_in code = map (λ f. f.0) (fields (items code))

-- each letter, in both cases
pub known_letters : (map fields_in (codes "y" ∷ codes "M" ∷ codes "d" ∷ codes "H" ∷ codes "s" ∷ codes "E" ∷ codes "b" ∷ codes "G" ∷ [])
    ≡ (Year ∷ []) ∷ (Month ∷ []) ∷ (Day ∷ []) ∷ (Hours ∷ []) ∷ (Seconds ∷ []) ∷ (FullYear ∷ []) ∷ (BuddhistYear ∷ []) ∷ (Nothing ∷ []) ∷ [])
    × (map fields_in (codes "[h]" ∷ codes "[MM]" ∷ codes "[sss]" ∷ codes "am/pm" ∷ codes "a/P" ∷ []) ≡ (ElapsedHours ∷ []) ∷ (ElapsedMinutes ∷ []) ∷ (ElapsedSeconds ∷ []) ∷ (HalfDay ∷ []) ∷ (HalfDayLetter ∷ []) ∷ [])
known_letters = (refl, refl)

-- all else in a date stands for itself
pub known_others : fields_in (codes "\"d\"\\m_y*s/ #?@%,1-[$s]") ≡ replicate 8 Own ++ (Nothing ∷ replicate 5 Own)
known_others = refl

-- m behind h, s and elapsed time of both; behind other letters and alone; before s and before other letters
pub known_minutes : map fields_in (codes "hm" ∷ codes "s:mm" ∷ codes "[h]m" ∷ codes "[s]m" ∷ codes "h am/pm mm" ∷ codes "h\"d\".0m" ∷ [])
    ≡ (Hours ∷ Minutes ∷ []) ∷ (Seconds ∷ Own ∷ Minutes ∷ []) ∷ (ElapsedHours ∷ Minutes ∷ []) ∷ (ElapsedSeconds ∷ Minutes ∷ [])
    ∷ (Hours ∷ Own ∷ HalfDay ∷ Own ∷ Minutes ∷ []) ∷ (Hours ∷ Own ∷ Own ∷ Tenths ∷ Minutes ∷ []) ∷ []
known_minutes = refl

pub known_minutes_before : map fields_in (codes "ms" ∷ codes "mm:ss" ∷ codes "m[s]" ∷ codes "d m\"h\" s" ∷ [])
    ≡ (Minutes ∷ Seconds ∷ []) ∷ (Minutes ∷ Own ∷ Seconds ∷ []) ∷ (Minutes ∷ ElapsedSeconds ∷ []) ∷ (Day ∷ Own ∷ Minutes ∷ Own ∷ Own ∷ Seconds ∷ []) ∷ []
known_minutes_before = refl

pub known_months : map fields_in (codes "m" ∷ codes "mm" ∷ codes "d/m/y" ∷ codes "mh" ∷ codes "[m]m" ∷ codes "hdm" ∷ codes "mds" ∷ codes "h:m:m" ∷ codes "hgm" ∷ [])
    ≡ (Month ∷ []) ∷ (Month ∷ []) ∷ (Day ∷ Own ∷ Month ∷ Own ∷ Year ∷ []) ∷ (Month ∷ Hours ∷ []) ∷ (ElapsedMinutes ∷ Month ∷ []) ∷ (Hours ∷ Day ∷ Month ∷ [])
    ∷ (Month ∷ Day ∷ Seconds ∷ []) ∷ (Hours ∷ Own ∷ Minutes ∷ Own ∷ Month ∷ []) ∷ (Hours ∷ Nothing ∷ Month ∷ []) ∷ []
known_months = refl

-- three letters and more are months everywhere
pub known_long_months : map fields_in (codes "hmmm" ∷ codes "mmms" ∷ codes "hmmmms" ∷ codes "smmmmms" ∷ []) ≡ (Hours ∷ Month ∷ []) ∷ (Month ∷ Seconds ∷ []) ∷ (Hours ∷ Month ∷ Seconds ∷ []) ∷ (Seconds ∷ Month ∷ Seconds ∷ []) ∷ []
known_long_months = refl

-- zeros right behind a point, up to three; brackets that show nothing are passed over
pub known_fractions : map fields_in (codes "s.00000" ∷ codes "s.0.00" ∷ codes "s0.0-0" ∷ codes "s.#0" ∷ codes "s.[Red]0[$-409]0" ∷ codes "s.\\-0" ∷ codes "s.*-0" ∷ [])
    ≡ (Seconds ∷ Own ∷ Tenths ∷ Hundredths ∷ Thousandths ∷ Own ∷ Own ∷ []) ∷ (Seconds ∷ Own ∷ Tenths ∷ Own ∷ Tenths ∷ Hundredths ∷ [])
    ∷ (Seconds ∷ Own ∷ Own ∷ Tenths ∷ Own ∷ Own ∷ []) ∷ (Seconds ∷ Own ∷ Own ∷ Own ∷ []) ∷ (Seconds ∷ Own ∷ Own ∷ Tenths ∷ Own ∷ Hundredths ∷ [])
    ∷ (Seconds ∷ Own ∷ Own ∷ Own ∷ []) ∷ (Seconds ∷ Own ∷ Own ∷ Own ∷ []) ∷ []
known_fractions = refl

pub known_condition : (c : Condition) (n : ℕ) → zeros_after (Some n) (item.Condition c) ≡ Some n
known_condition c n = refl

-- ---- what a section needs

abbrev clock_in : List ℕ → Clock
clock_in code = clock_of (fields (items code))

abbrev precision_in : List ℕ → Precision
precision_in code = precision_of (clock_in code)

pub known_precisions : map precision_in (codes "yyyy-mm-dd" ∷ codes "ebg mmm\"h\"" ∷ codes "h" ∷ codes "[h]" ∷ codes "[m]" ∷ codes "[ss]" ∷ codes "s" ∷ codes "hm" ∷ codes "d AM/PM" ∷ codes "d A/P" ∷ codes "d." ∷ codes "d 0" ∷ [])
    ≡ replicate 2 precision.Days ++ replicate 8 precision.Seconds ++ replicate 2 precision.Days
known_precisions = refl

pub known_fine_precisions : map precision_in (codes "d.0" ∷ codes "s.00" ∷ codes "s.000" ∷ codes "s.0000" ∷ codes "s.0 .00" ∷ codes "s.00 .0" ∷ codes "mm:ss.0;h" ∷ codes "y;s.0" ∷ [])
    ≡ precision.Tenths ∷ precision.Hundredths ∷ precision.Milliseconds ∷ precision.Milliseconds ∷ precision.Hundredths ∷ precision.Hundredths ∷ precision.Tenths ∷ precision.Days ∷ []
known_fine_precisions = refl

-- AM/PM, A/P, and elapsed hours, minutes and seconds
abbrev flags : Clock → List Bool
flags c = c.has_half_days ∷ c.has_elapsed_hours ∷ c.has_elapsed_minutes ∷ c.has_elapsed_seconds ∷ []

pub known_flags : map (λ code. flags (clock_in code)) (codes "h:mm:ss" ∷ codes "h AM/PM" ∷ codes "h A/P" ∷ codes "[hh]" ∷ codes "[m]" ∷ codes "[s]" ∷ [])
    ≡ (false ∷ false ∷ false ∷ false ∷ []) ∷ (true ∷ false ∷ false ∷ false ∷ []) ∷ (true ∷ false ∷ false ∷ false ∷ [])
    ∷ (false ∷ true ∷ false ∷ false ∷ []) ∷ (false ∷ false ∷ true ∷ false ∷ []) ∷ (false ∷ false ∷ false ∷ true ∷ []) ∷ []
known_flags = refl
