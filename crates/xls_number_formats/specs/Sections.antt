-- What a section of a number format is, by its items.
use Rattle.std.specs.Prelude.{ℕ, zero, suc, Bool, true, false, not, ◌&&◌, ◌||◌, List, [], ◌∷◌, map, if◌then◌else◌, Option, Some, None}
use Rattle.std.specs.List.{list_any}
use Rattle.xls_number_formats.specs.declared.items.Letter.{Letter}
use Rattle.xls_number_formats.specs.declared.items.Letter.TheVariants as letter
use Rattle.xls_number_formats.specs.declared.items.Condition.{Condition}
use Rattle.xls_number_formats.specs.declared.items.Item.{Item}
use Rattle.xls_number_formats.specs.declared.items.Item.TheVariants as item
use Rattle.xls_number_formats.specs.declared.sections.Kind.{Kind}
use Rattle.xls_number_formats.specs.declared.sections.Kind.TheVariants as kind
use Rattle.xls_number_formats.specs.declared.sections.Section.{Section}
use Rattle.xls_number_formats.specs.Grammar.{Token, is_place, items, after_section}

-- ---- items by what they are

-- the letters y m d h s, elapsed time, AM/PM and A/P
abbrev pub is_date_letter : Letter → Bool
is_date_letter letter.Y = true
is_date_letter letter.M = true
is_date_letter letter.D = true
is_date_letter letter.H = true
is_date_letter letter.S = true
is_date_letter letter.E = false
is_date_letter letter.B = false
is_date_letter letter.G = false

abbrev pub is_date_item : Item → Bool
is_date_item (item.Letters letter) = is_date_letter letter
is_date_item (item.Elapsed letter) = true
is_date_item item.AmPm = true
is_date_item item.AP = true
is_date_item other = false

-- the letters e and b
abbrev pub is_year_letter : Letter → Bool
is_year_letter letter.E = true
is_year_letter letter.B = true
is_year_letter other = false

abbrev pub is_year_item : Item → Bool
is_year_item (item.Letters letter) = is_year_letter letter
is_year_item other = false

abbrev pub is_elapsed : Item → Bool
is_elapsed (item.Elapsed letter) = true
is_elapsed other = false

abbrev pub is_general : Item → Bool
is_general item.General = true
is_general other = false

abbrev pub is_text : Item → Bool
is_text item.Text = true
is_text other = false

abbrev pub is_slash : Item → Bool
is_slash item.Slash = true
is_slash other = false

abbrev pub is_exponent : Item → Bool
is_exponent (item.Exponent plus) = true
is_exponent other = false

-- a place, General or `@`
abbrev pub is_value : Item → Bool
is_value i = is_place i || is_general i || is_text i

-- a place or a digit
abbrev pub is_part : Item → Bool
is_part (item.Place place) = true
is_part item.Digit = true
is_part other = false

-- what isn't a bracket that shows nothing
abbrev pub is_shown : Item → Bool
is_shown item.Hidden = false
is_shown (item.Condition condition) = false
is_shown other = true

-- ---- sections

-- one of the items passes a test; those before and behind the first that does
abbrev pub has : (Item → Bool) → List Item → Bool
has p is = list_any p is

abbrev pub before : (Item → Bool) → List Item → List Item
before p [] = []
before p (i ∷ is) = if p i then [] else i ∷ before p is

abbrev pub behind : (Item → Bool) → List Item → List Item
behind p [] = []
behind p (i ∷ is) = if p i then is else behind p is

-- letters of a date; or a year's letters and neither a place, General nor `@`
abbrev pub is_date : List Item → Bool
is_date is = has is_date_item is || (has is_year_item is && not (has is_value is))

-- exactly one slash, a place before it, a place or a digit behind it
abbrev pub is_fraction : List Item → Bool
is_fraction is =
    has is_slash is && not (has is_slash (behind is_slash is)) && has is_place (before is_slash is)
    && has is_part (behind is_slash is)

-- an exponent, and a place behind the first one
abbrev pub is_scientific : List Item → Bool
is_scientific is = has is_place (behind is_exponent is)

-- the first that fits
abbrev pub kind_of : List Item → Kind
kind_of is =
    if is_date is then kind.Date else if has is_general is then kind.General
    else if is_fraction is then kind.Fraction else if is_scientific is then kind.Exponent
    else kind.Plain

-- the later of two conditions
abbrev pub later : Option Condition → Option Condition → Option Condition
later one None = one
later one (Some other) = Some other

abbrev pub own_condition : Item → Option Condition
own_condition (item.Condition condition) = Some condition
own_condition other = None

-- the condition of a section: the last one counts
abbrev pub condition_of : List Item → Option Condition
condition_of [] = None
condition_of (i ∷ is) = later (own_condition i) (condition_of is)

-- all that decides whether a section applies, and how
abbrev pub section_of : List Item → Section
section_of is = record {
  kind = kind_of is;
  condition = condition_of is;
  has_text = has is_text is;
  has_items = has is_shown is;
  has_elapsed = has is_elapsed is;
}

-- the items of tokens, without their texts
abbrev pub kinds : List Token → List Item
kinds tokens = map (λ t. t.0) tokens

-- the sections of a code, at most so many
abbrev pub sections_after : (List ℕ → List Section) → Option (List ℕ) → List Section
sections_after sections None = []
sections_after sections (Some cs) = sections cs

abbrev pub first_sections : ℕ → List ℕ → List Section
first_sections zero cs = []
first_sections (suc n) cs =
    section_of (kinds (items cs)) ∷ sections_after (first_sections n) (after_section cs)

-- the first four count
abbrev pub sections_of : List ℕ → List Section
sections_of cs = first_sections 4 cs
