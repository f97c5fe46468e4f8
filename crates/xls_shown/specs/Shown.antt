-- What Excel shows of a finite double under a number format's code (ECMA-376 part 1, 18.8.31; what it leaves
-- open is this project's rule, after Excel).
use Rattle.std.specs.Prelude.{◌≡◌, ℕ, Bool, true, false, ◌++◌, min, if◌then◌else◌, List, [], ◌∷◌, Option, Some, None, codes}
use Rattle.std.specs.List.{flat_map, slice_get}
use Rattle.xls_rounding.specs.declared.decimals.Decimal.{Decimal}
use Rattle.xls_rounding.specs.Rounding.{decimal_of}
use Rattle.xls_number_formats.specs.declared.items.Item.{Item}
use Rattle.xls_number_formats.specs.declared.items.Item.TheVariants as item
use Rattle.xls_number_formats.specs.declared.sections.Kind.{Kind}
use Rattle.xls_number_formats.specs.declared.sections.Kind.TheVariants as kind
use Rattle.xls_number_formats.specs.declared.choices.Choice.{Choice}
use Rattle.xls_number_formats.specs.declared.choices.Choice.TheVariants as choice
use Rattle.xls_number_formats.specs.Grammar.{Token, items}
use Rattle.xls_number_formats.specs.Sections.{kinds, kind_of, sections_of}
use Rattle.xls_number_formats.specs.Choices.{choice_of, counted}
use Rattle.xls_number_formats.specs.Formats.{first_codes}
use Rattle.xls_number_formats.specs.Texts.{shown_by, shown_text}
use Rattle.xls_shown_dates.specs.declared.clocks.Clock.{Clock}
use Rattle.xls_shown_dates.specs.declared.moments.Moment.{Moment}
use Rattle.xls_shown_dates.specs.Fields.{fields, clock_of, precision_of}
use Rattle.xls_shown_dates.specs.Moments.{has_moment, time_of, IsMoment}
use Rattle.xls_shown_dates.specs.Texts.{section_text}
use Rattle.xls_shown_numbers.specs.General.{general}
use Rattle.xls_shown_numbers.specs.Plain.{plain_text}
use Rattle.xls_shown_numbers.specs.Exponent.{exponent_text}
use Rattle.xls_shown_fractions.specs.Texts.{fraction_text}

abbrev pub sign : Bool → List ℕ
sign minus = if minus then codes "-" else []

abbrev pub hashes : List ℕ
hashes = codes "########"

-- ---- a section

-- in a section with `General`, the word is the number, a place and `@` show nothing, and every other item stands
-- for itself
abbrev pub general_item : Decimal → Item → List ℕ → List ℕ
general_item d item.General own = general d
general_item d other own = shown_by other own []

abbrev pub general_token : Decimal → Token → List ℕ
general_token d t = general_item d t.0 t.1

abbrev pub general_text : List Token → Decimal → List ℕ
general_text ts d = flat_map (general_token d) ts

-- a date or a time, with its sign; `########` without a moment
abbrev pub IsMomentShown : Bool → List Token → Clock → Bool → Bool → ℕ → List ℕ → Type 0
IsMomentShown false ts clock minus is_1904 bits text = text ≡ hashes
IsMomentShown true ts clock minus is_1904 bits text =
    (m : Moment) × IsMoment is_1904 (time_of (precision_of clock) bits) m
    × (text ≡ sign minus ++ section_text clock m ts)

abbrev pub IsDateShown : List Token → Bool → Bool → ℕ → List ℕ → Type 0
IsDateShown ts minus is_1904 bits text =
    let clock = clock_of (fields ts) in
    IsMomentShown (has_moment is_1904 (precision_of clock) bits) ts clock minus is_1904 bits text

-- a number by the kind of its section
abbrev pub IsSectionShown : Kind → List Token → Bool → Bool → ℕ → List ℕ → Type 0
IsSectionShown kind.Date ts minus is_1904 bits text = IsDateShown ts minus is_1904 bits text
IsSectionShown kind.General ts minus is_1904 bits text = text ≡ sign minus ++ general_text ts (decimal_of bits)
IsSectionShown kind.Fraction ts minus is_1904 bits text = text ≡ sign minus ++ fraction_text ts bits
IsSectionShown kind.Exponent ts minus is_1904 bits text = text ≡ sign minus ++ exponent_text ts (decimal_of bits)
IsSectionShown kind.Plain ts minus is_1904 bits text = text ≡ sign minus ++ plain_text ts (decimal_of bits)

-- ---- a code

-- the code from a section on
abbrev pub code_or_none : Option (List ℕ) → List ℕ
code_or_none None = []
code_or_none (Some cs) = cs

abbrev pub code_at : List ℕ → ℕ → List ℕ
code_at cs place = code_or_none (slice_get (first_codes 4 cs) place)

-- by the section that applies; at most three are for numbers
abbrev pub IsChosenShown : Choice × Bool → List ℕ → Bool → ℕ → List ℕ → Type 0
IsChosenShown (choice.General, minus) cs is_1904 bits text = text ≡ sign minus ++ general (decimal_of bits)
IsChosenShown (choice.Hashes, minus) cs is_1904 bits text = text ≡ hashes
IsChosenShown (choice.Section place, minus) cs is_1904 bits text =
    let ts = items (code_at cs (min place 2)) in
    IsSectionShown (kind_of (kinds ts)) ts minus is_1904 bits text

-- a code shows a double as this text
abbrev pub IsShown : List ℕ → Bool → ℕ → List ℕ → Type 0
IsShown cs is_1904 bits text = IsChosenShown (choice_of (sections_of cs) (counted bits)) cs is_1904 bits text

-- a text has gained characters of which this holds
abbrev pub Gains : (List ℕ → Type 0) → List ℕ → List ℕ → Type 0
Gains P old new = (shown : List ℕ) × P shown × (new ≡ old ++ shown)

-- ---- a text

-- by the section for texts; an empty text is shown as it is
abbrev pub text_shown : List ℕ → List ℕ → List ℕ
text_shown cs [] = []
text_shown cs (c ∷ text) = shown_text cs (c ∷ text)
