-- The parts of a section with a fraction, as `# ??/??` (ECMA-376 part 1, 18.8.31; what it leaves open is this
-- project's rule, after Excel):
--     section = front between numerator middle denominator rest
-- The numerator is the last unbroken run of places before the slash, and the front ends with the last place
-- before it, a whole place. The denominator is the first run behind the slash: of places, or of a digit and
-- then digits and zeros, which is a fixed one.
use Rattle.std.specs.Prelude.{ℕ, ◌+◌, Bool, true, false, not, ◌&&◌, ◌||◌, ◌==◌, nat_lt, if◌then◌else◌, List, [], ◌∷◌}
use Rattle.xls_number_formats.specs.declared.items.Item.{Item}
use Rattle.xls_number_formats.specs.declared.items.Item.TheVariants as item
use Rattle.xls_number_formats.specs.Grammar.{is_place}
use Rattle.xls_number_formats.specs.Sections.{is_slash, is_part, is_shown}
use Rattle.xls_shown_numbers.specs.Plain.{is_zero}
use Rattle.xls_shown_fractions.specs.declared.roles.Spot.{Spot}
use Rattle.xls_shown_fractions.specs.declared.roles.Role.{Role}
use Rattle.xls_shown_fractions.specs.declared.roles.Role.TheVariants as role

abbrev pub is_digit : Item → Bool
is_digit item.Digit = true
is_digit other = false

-- ---- the items so far

abbrev pub at_start : Spot
at_start = record { placed = 0; run = 0; last = 0; slash = false; begun = false; fixed = false; ended = false }

-- an item goes on with the denominator that has begun
abbrev pub goes_on : Spot → Item → Bool
goes_on s i = if s.fixed then is_digit i || is_zero i else is_place i

abbrev pub one_more : Bool → ℕ → ℕ
one_more counts n = if counts then n + 1 else n

-- after an item more: the places before the slash, those of the unbroken run up to here, those of the last run
-- before the slash, whether the slash was there, and whether the denominator has begun, with a digit, and ended
abbrev pub spot_next : Spot → Item → Spot
spot_next s i = record {
  placed = one_more (is_place i && not s.slash) s.placed;
  run = if is_place i then s.run + 1 else 0;
  last = if is_place i && not s.slash then s.run + 1 else s.last;
  slash = s.slash || is_slash i;
  begun = s.begun || (s.slash && is_part i);
  fixed = s.fixed || (s.slash && (not s.begun && is_digit i));
  ended = s.ended || (s.begun && not (goes_on s i));
}

-- brackets that show nothing don't count
abbrev pub spot_after : Spot → Item → Spot
spot_after s i = if is_shown i then spot_next s i else s

abbrev pub spot_all : Spot → List Item → Spot
spot_all s [] = s
spot_all s (i ∷ is) = spot_all (spot_after s i) is

-- ---- the part that an item belongs to, where so many places are whole

abbrev pub role_before : ℕ → Spot → Item → Role
role_before whole s i =
    if nat_lt s.placed whole then role.Front
    else if is_place i then role.Numerator
    else if s.placed == whole then role.Between else role.Middle

abbrev pub role_behind : Spot → Item → Role
role_behind s i =
    if s.ended then role.Rest
    else if s.begun then (if goes_on s i then role.Denominator else role.Rest)
    else if is_part i then role.Denominator else role.Middle

abbrev pub role_of : ℕ → Spot → Item → Role
role_of whole s i = if s.slash then role_behind s i else role_before whole s i
