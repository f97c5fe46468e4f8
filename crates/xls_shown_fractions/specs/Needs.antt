-- What a section with a fraction needs of its items.
use Rattle.std.specs.Prelude.{ℕ, ◌+◌, ◌-◌, ◌*◌, ◌^◌, min, Bool, true, false, not, ◌&&◌, ◌||◌, ◌==◌, if◌then◌else◌, List, [], ◌∷◌, Option, Some, None}
use Rattle.xls_number_formats.specs.declared.items.Place.TheVariants as place
use Rattle.xls_number_formats.specs.declared.items.Item.{Item}
use Rattle.xls_number_formats.specs.declared.items.Item.TheVariants as item
use Rattle.xls_number_formats.specs.Grammar.{Token, is_place}
use Rattle.xls_number_formats.specs.Sections.{kinds}
use Rattle.xls_shown_numbers.specs.Plain.{is_zero}
use Rattle.xls_shown_fractions.specs.declared.roles.Spot.{Spot}
use Rattle.xls_shown_fractions.specs.declared.roles.Role.{Role}
use Rattle.xls_shown_fractions.specs.declared.roles.Role.TheVariants as role
use Rattle.xls_shown_fractions.specs.declared.needs.Fraction.{Fraction}
use Rattle.xls_shown_fractions.specs.Roles.{at_start, one_more, spot_after, spot_all, role_of}

abbrev pub is_question : Item → Bool
is_question (item.Place place.Question) = true
is_question other = false

abbrev pub is_numerator : Role → Bool
is_numerator role.Numerator = true
is_numerator other = false

abbrev pub is_denominator : Role → Bool
is_denominator role.Denominator = true
is_denominator other = false

-- the last whole place
abbrev pub is_last_whole : ℕ → Spot → Item → Bool
is_last_whole whole s i = (s.placed + 1 == whole) && (not s.slash && is_place i)

-- ---- the items of the parts

-- an item of the numerator, of the denominator, or the last whole place passes a test
abbrev pub in_numerator : (Item → Bool) → ℕ → Spot → Item → Bool
in_numerator p whole s i = is_numerator (role_of whole s i) && p i

abbrev pub in_denominator : (Item → Bool) → ℕ → Spot → Item → Bool
in_denominator p whole s i = is_denominator (role_of whole s i) && p i

abbrev pub last_whole : (Item → Bool) → ℕ → Spot → Item → Bool
last_whole p whole s i = is_last_whole whole s i && p i

-- one of the items passes a test; how many do
abbrev pub any_from : (ℕ → Spot → Item → Bool) → ℕ → Spot → List Item → Bool
any_from p whole s [] = false
any_from p whole s (i ∷ is) = p whole s i || any_from p whole (spot_after s i) is

abbrev pub count_from : (ℕ → Spot → Item → Bool) → ℕ → Spot → List Item → ℕ
count_from p whole s [] = 0
count_from p whole s (i ∷ is) = one_more (p whole s i) (count_from p whole (spot_after s i) is)

-- ---- a fixed denominator

-- the digit that an item's text begins with
abbrev pub own_digit : List ℕ → ℕ
own_digit [] = 0
own_digit (c ∷ cs) = c - 48

-- a digit more of a number; from 10 ^ 15 on, which has a digit more than numbers are shown with, it is 10 ^ 15
abbrev pub digit_more : ℕ → List ℕ → ℕ
digit_more n own = min (n * 10 + own_digit own) (10 ^ 15)

-- the number that the items of the denominator spell
abbrev pub spelled_from : ℕ → Spot → ℕ → List Token → ℕ
spelled_from whole s n [] = n
spelled_from whole s n (t ∷ ts) =
    spelled_from whole (spot_after s t.0) (if is_denominator (role_of whole s t.0) then digit_more n t.1 else n) ts

-- ---- all of it

abbrev pub fixed_of : Bool → ℕ → Option ℕ
fixed_of is_fixed n = if is_fixed then Some n else None

-- how many places are whole: those before the last run before the slash
abbrev pub whole_of : Spot → ℕ
whole_of all = all.placed - all.last

abbrev pub needs_in : Spot → List Token → Fraction
needs_in all ts =
    let whole = whole_of all in
    let is = kinds ts in
    record {
      whole = whole;
      numerator = all.last;
      places = count_from (in_denominator is_place) whole at_start is;
      zeros = count_from (in_denominator is_zero) whole at_start is;
      fixed = fixed_of all.fixed (spelled_from whole at_start 0 ts);
      has_numerator_zero = any_from (in_numerator is_zero) whole at_start is;
      has_numerator_question = any_from (in_numerator is_question) whole at_start is;
      has_denominator_question = any_from (in_denominator is_question) whole at_start is;
      ends_in_zero = any_from (last_whole is_zero) whole at_start is;
      ends_in_question = any_from (last_whole is_question) whole at_start is;
    }

abbrev pub needs_of : List Token → Fraction
needs_of ts = needs_in (spot_all at_start (kinds ts)) ts
