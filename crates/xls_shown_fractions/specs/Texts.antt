-- The text of a number under a section with a fraction, as a list of characters.
use Rattle.std.specs.Prelude.{ℕ, ◌-◌, Bool, true, false, not, ◌&&◌, ◌||◌, ◌==◌, max, nat_lt, if◌then◌else◌, List, [], ◌∷◌, ◌++◌, map, codes}
use Rattle.xls_number_formats.specs.declared.items.Place.{Place}
use Rattle.xls_number_formats.specs.declared.items.Place.TheVariants as place
use Rattle.xls_number_formats.specs.declared.items.Item.{Item}
use Rattle.xls_number_formats.specs.declared.items.Item.TheVariants as item
use Rattle.xls_number_formats.specs.Grammar.{Token}
use Rattle.xls_number_formats.specs.Texts.{shown_by}
use Rattle.xls_shown_numbers.specs.Plain.{size, written_place}
use Rattle.xls_shown_fractions.specs.declared.roles.Spot.{Spot}
use Rattle.xls_shown_fractions.specs.declared.roles.Role.{Role}
use Rattle.xls_shown_fractions.specs.declared.roles.Role.TheVariants as role
use Rattle.xls_shown_fractions.specs.declared.needs.Fraction.{Fraction}
use Rattle.xls_shown_fractions.specs.declared.texts.Ink.{Ink}
use Rattle.xls_shown_fractions.specs.declared.texts.Ink.TheVariants as ink
use Rattle.xls_shown_fractions.specs.declared.texts.Look.{Look}
use Rattle.xls_shown_fractions.specs.Roles.{at_start, spot_after, role_of}
use Rattle.xls_shown_fractions.specs.Needs.{needs_of}
use Rattle.xls_shown_fractions.specs.Ratios.{Mixed, ratio_of}

-- ---- what is written, blanked and left out

-- a text as it is, as many blanks, or nothing
abbrev pub inked : Ink → List ℕ → List ℕ
inked ink.Shown text = text
inked ink.Blank text = map (λ c. 32) text
inked ink.Hidden text = []

abbrev pub blank_if : Bool → Ink
blank_if has_question = if has_question then ink.Blank else ink.Hidden

-- all is shown, and a whole number of 0 is written or not
abbrev pub all_shown : Bool → Look
all_shown writes_zero = record { writes_zero = writes_zero; between = ink.Shown; fraction = ink.Shown }

-- a numerator of 0 that has no place `0`: the whole number is written, and all from behind the whole places
-- up to the denominator is blanked if there is a `?`, else left out
abbrev pub without_fraction : Fraction → Look
without_fraction f =
    let ink = blank_if (f.ends_in_question || (f.has_numerator_question || f.has_denominator_question)) in
    record { writes_zero = true; between = ink; fraction = ink }

-- a whole number of 0 where the last whole place isn't `0`: it is written where the numerator is 0 and that
-- place is `?`; else what stands before the numerator is blanked or left out
abbrev pub without_whole : Fraction → Bool → Look
without_whole f is_none =
    if is_none && f.ends_in_question then all_shown true
    else record {
      writes_zero = false;
      between = blank_if (f.ends_in_question || f.has_numerator_question);
      fraction = ink.Shown;
    }

-- whether the whole number, and the numerator, is 0; without whole places nothing of this counts
abbrev pub look_of : Fraction → Bool → Bool → Look
look_of f no_whole no_numerator =
    if f.whole == 0 then all_shown false
    else if no_numerator && not f.has_numerator_zero then without_fraction f
    else if no_whole && not f.ends_in_zero then without_whole f no_numerator
    else all_shown false

abbrev pub ink_of : Look → Role → Ink
ink_of look role.Between = look.between
ink_of look role.Numerator = look.fraction
ink_of look role.Middle = look.fraction
ink_of look role.Denominator = look.fraction
ink_of look other = ink.Shown

-- ---- items

-- without a digit of the denominator
abbrev pub no_digit : Place → List ℕ
no_digit place.Question = codes " "
no_digit other = []

-- place i from the left of a denominator in at least so many digits
abbrev pub denominator_place : ℕ → ℕ → Place → ℕ → List ℕ
denominator_place n zeros kind i =
    if nat_lt i (max (size n) zeros) then written_place false n false place.Zero (max (size n) zeros - i - 1)
    else no_digit kind

-- a place of each part, where a numerator of 0 has the digit 0; those of a fixed denominator stand for
-- themselves, and a further place shows nothing
abbrev pub place_text : Fraction → Mixed → Bool → Spot → Role → Place → List ℕ → List ℕ
place_text f m writes_zero s role.Front place own =
    written_place writes_zero m.whole (s.placed == 0) place (f.whole - s.placed - 1)
place_text f m writes_zero s role.Numerator place own =
    written_place true m.numerator (s.run == 0) place (f.numerator - s.run - 1)
place_text f m writes_zero s role.Denominator place own =
    if s.fixed then own else denominator_place m.denominator f.zeros place s.run
place_text f m writes_zero s other place own = []

-- `@` shows nothing, and every other item stands for itself
abbrev pub item_text : Fraction → Mixed → Bool → Spot → Role → Item → List ℕ → List ℕ
item_text f m writes_zero s role (item.Place place) own = place_text f m writes_zero s role place own
item_text f m writes_zero s role other own = shown_by other own []

-- ---- all of it

abbrev pub token_text : Fraction → Mixed → Look → Spot → Token → List ℕ
token_text f m look s t =
    let role = role_of f.whole s t.0 in
    inked (ink_of look role) (item_text f m look.writes_zero s role t.0 t.1)

abbrev pub text_from : Fraction → Mixed → Look → Spot → List Token → List ℕ
text_from f m look s [] = []
text_from f m look s (t ∷ ts) = token_text f m look s t ++ text_from f m look (spot_after s t.0) ts

abbrev pub mixed_text : Fraction → Mixed → List Token → List ℕ
mixed_text f m ts = text_from f m (look_of f (m.whole == 0) (m.numerator == 0)) at_start ts

-- the size of a finite double
abbrev pub fraction_text : List Token → ℕ → List ℕ
fraction_text ts bits = mixed_text (needs_of ts) (ratio_of (needs_of ts) bits) ts
