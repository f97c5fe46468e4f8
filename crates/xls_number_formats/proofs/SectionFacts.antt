-- Known values of sections, so that a wrong rule in the definitions does not check.
use Rattle.std.proofs.Common.{◌≡◌, ℕ, true, false, List, [], ◌∷◌, ◌++◌, map, replicate, refl, codes, Some, None, pos}
use Rattle.std.specs.Float.{fin}
use Rattle.std.proofs.lemmas.Float.Parse.{parse_float_on_literals}
use Rattle.xls_number_formats.specs.declared.items.Place.TheVariants.{Zero, Hash, Question}
use Rattle.xls_number_formats.specs.declared.items.Letter.TheVariants.{Y, M, D, H, S, E, B, G}
use Rattle.xls_number_formats.specs.declared.items.Comparison.TheVariants.{Below, Above}
use Rattle.xls_number_formats.specs.declared.items.Item.{Item}
use Rattle.xls_number_formats.specs.declared.items.Item.TheVariants as item
use Rattle.xls_number_formats.specs.declared.sections.Kind.{Kind}
use Rattle.xls_number_formats.specs.declared.sections.Kind.TheVariants as kind
use Rattle.xls_number_formats.specs.Grammar.{is_place, items}
use Rattle.xls_number_formats.specs.Sections.{is_date_item, is_year_item, is_elapsed, is_general, is_text, is_slash, is_exponent, is_value, is_part, is_shown, kind_of, kinds, condition_of, sections_of}
use Rattle.xls_number_formats.specs.Formats.{first_codes}

-- each item
abbrev pub each : List Item
each = item.Literal ∷ item.Hidden ∷ item.Condition (record { comparison = Below; bound = fin false 1 (pos 0) }) ∷ item.Elapsed H ∷ item.Elapsed M ∷ item.Elapsed S
    ∷ item.Place Zero ∷ item.Place Hash ∷ item.Place Question ∷ item.Point ∷ item.Comma ∷ item.Percent ∷ item.Slash ∷ item.Text ∷ item.Exponent true ∷ item.Exponent false
    ∷ item.General ∷ item.AmPm ∷ item.AP ∷ item.Letters Y ∷ item.Letters M ∷ item.Letters D ∷ item.Letters H ∷ item.Letters S ∷ item.Letters E ∷ item.Letters B ∷ item.Letters G ∷ item.Digit ∷ []

-- which of them pass each test
pub known_date_items : map is_date_item each ≡ replicate 3 false ++ replicate 3 true ++ replicate 11 false ++ replicate 7 true ++ replicate 4 false
known_date_items = refl

pub known_year_items : map is_year_item each ≡ replicate 24 false ++ true ∷ true ∷ false ∷ false ∷ []
known_year_items = refl

pub known_elapsed : map is_elapsed each ≡ replicate 3 false ++ replicate 3 true ++ replicate 22 false
known_elapsed = refl

pub known_values : map is_value each ≡ replicate 6 false ++ replicate 3 true ++ replicate 4 false ++ true ∷ false ∷ false ∷ true ∷ replicate 11 false
known_values = refl

pub known_parts : map is_part each ≡ replicate 6 false ++ replicate 3 true ++ replicate 18 false ++ true ∷ []
known_parts = refl

pub known_shown : map is_shown each ≡ true ∷ false ∷ false ∷ replicate 25 true
known_shown = refl

pub known_places : map is_place each ≡ replicate 6 false ++ replicate 3 true ++ replicate 19 false
known_places = refl

pub known_others : (map is_general each ≡ replicate 16 false ++ true ∷ replicate 11 false) × (map is_text each ≡ replicate 13 false ++ true ∷ replicate 14 false)
    × (map is_slash each ≡ replicate 12 false ++ true ∷ replicate 15 false) × (map is_exponent each ≡ replicate 14 false ++ true ∷ true ∷ replicate 12 false)
known_others = (refl, refl, refl, refl)

-- ---- kinds

abbrev pub kind_in : List ℕ → Kind
kind_in cs = kind_of (kinds (items cs))

-- letters of dates, elapsed time, halves of a day; years' letters without a value, and with one
pub known_dates : map kind_in (codes "y" ∷ codes "m" ∷ codes "d" ∷ codes "h" ∷ codes "s" ∷ codes "[h]" ∷ codes "[m]" ∷ codes "[s]" ∷ codes "AM/PM" ∷ codes "a/p" ∷ codes "e" ∷ codes "b" ∷ codes "0y" ∷ codes "General d" ∷ codes "#/#m" ∷ codes "0e+0s" ∷ codes "@h" ∷ [])
    ≡ replicate 17 kind.Date
known_dates = refl

pub known_no_dates : map kind_in (codes "g" ∷ codes "e0" ∷ codes "b#" ∷ codes "e?" ∷ codes "e@" ∷ codes "\"d\"" ∷ codes "\\d" ∷ codes "_d" ∷ codes "*d" ∷ codes "[d]" ∷ codes "[Red]" ∷ codes "[$-F800]" ∷ codes "[$d]" ∷ codes "E+" ∷ codes "" ∷ [])
    ≡ replicate 13 kind.Plain ++ kind.Date ∷ kind.Plain ∷ []
known_no_dates = refl

-- General before the others; a fraction's slash, places and digits; an exponent's place behind it
pub known_generals : map kind_in (codes "General" ∷ codes "GENERAL #/#" ∷ codes "0e+0 general" ∷ codes "eGeneral" ∷ []) ≡ replicate 4 kind.General
known_generals = refl

pub known_fractions : map kind_in (codes "#/#" ∷ codes "# ??/??" ∷ codes "0/4" ∷ codes "?/x0" ∷ codes "#/# 0e+0" ∷ codes "0e+/0" ∷ []) ≡ replicate 6 kind.Fraction
known_fractions = refl

pub known_no_fractions : map kind_in (codes "/#" ∷ codes "#/" ∷ codes "#/#/#" ∷ codes "4/#" ∷ codes "#\\/#" ∷ codes "#/x" ∷ codes "#/#/" ∷ []) ≡ replicate 7 kind.Plain
known_no_fractions = refl

pub known_exponents : map kind_in (codes "0E+0" ∷ codes "0e-#" ∷ codes "?.?E+x?" ∷ codes "0E+E+0" ∷ codes "#/E+0" ∷ []) ≡ replicate 4 kind.Exponent ++ kind.Fraction ∷ []
known_exponents = refl

pub known_plains : map kind_in (codes "0E+" ∷ codes "0E+1" ∷ codes "0.00%" ∷ codes "@" ∷ codes "x" ∷ []) ≡ replicate 5 kind.Plain
known_plains = refl

-- ---- conditions: the last one counts

pub known_conditions : map (λ cs. condition_of (kinds (items cs))) (codes "0" ∷ codes "[<1]0" ∷ codes "0[>1]" ∷ codes "[<1]0[>1]" ∷ codes "[>1][<1][Red]" ∷ codes "[>1];[<1]" ∷ [])
    ≡ None ∷ Some (record { comparison = Below; bound = fin false 1 (pos 0) }) ∷ Some (record { comparison = Above; bound = fin false 1 (pos 0) }) ∷ Some (record { comparison = Above; bound = fin false 1 (pos 0) })
    ∷ Some (record { comparison = Below; bound = fin false 1 (pos 0) }) ∷ Some (record { comparison = Above; bound = fin false 1 (pos 0) }) ∷ []
unfolding parse_float_on_literals
known_conditions = refl

-- what decides, of a section with all and of one with nothing
pub known_sections : sections_of (codes "[Red][<1]@[h];[$-409][>1]")
    ≡ record { kind = kind.Date; condition = Some (record { comparison = Below; bound = fin false 1 (pos 0) }); has_text = true; has_items = true; has_elapsed = true }
    ∷ record { kind = kind.Plain; condition = Some (record { comparison = Above; bound = fin false 1 (pos 0) }); has_text = false; has_items = false; has_elapsed = false } ∷ []
unfolding parse_float_on_literals
known_sections = refl

-- ---- the first four sections count

pub known_codes : map (first_codes 4) (codes "" ∷ codes "0" ∷ codes ";" ∷ codes "a;\";\";c" ∷ codes "1;2;3;4;5" ∷ [])
    ≡ ([] ∷ []) ∷ (codes "0" ∷ []) ∷ (codes ";" ∷ [] ∷ []) ∷ (codes "a;\";\";c" ∷ codes "\";\";c" ∷ codes "c" ∷ []) ∷ (codes "1;2;3;4;5" ∷ codes "2;3;4;5" ∷ codes "3;4;5" ∷ codes "4;5" ∷ []) ∷ []
known_codes = refl
