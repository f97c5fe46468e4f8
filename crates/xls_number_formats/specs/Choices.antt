-- Which section of a number format a number is shown by, and whether a minus stands before it.
use Rattle.std.specs.Prelude.{ℕ, ◌+◌, Bool, true, false, not, ◌&&◌, ◌||◌, ◌==◌, List, [], ◌∷◌, length, if◌then◌else◌, Option, Some, None, from_bits, nat_lt}
use Rattle.std.specs.Float.{Float, binary64}
use Rattle.std.specs.Float.Ieee.{eq, ne, lt, le}
use Rattle.xls_bytes.specs.Doubles.{exponent_of}
use Rattle.xls_number_formats.specs.declared.choices.TheConstants.{ZERO}
use Rattle.xls_number_formats.specs.declared.items.Comparison.{Comparison}
use Rattle.xls_number_formats.specs.declared.items.Comparison.TheVariants.{Below, Above, Same, AtMost, AtLeast, Other}
use Rattle.xls_number_formats.specs.declared.items.Condition.{Condition}
use Rattle.xls_number_formats.specs.declared.sections.Kind.{Kind}
use Rattle.xls_number_formats.specs.declared.sections.Kind.TheVariants as kind
use Rattle.xls_number_formats.specs.declared.sections.Section.{Section}
use Rattle.xls_number_formats.specs.Sections.{later}
use Rattle.xls_number_formats.specs.declared.choices.Choice.{Choice}
use Rattle.xls_number_formats.specs.declared.choices.Choice.TheVariants as choice

-- ---- conditions

abbrev pub compares : Comparison → Float → Float → Bool
compares Below x bound = lt x bound
compares Above x bound = lt bound x
compares Same x bound = eq x bound
compares AtMost x bound = le x bound
compares AtLeast x bound = le bound x
compares Other x bound = ne x bound

-- none is met always
abbrev pub is_met : Float → Option Condition → Bool
is_met x None = true
is_met x (Some condition) = compares condition.comparison x condition.bound

-- it is met by negative numbers only: `<` a bound that isn't above 0, `<=` and `=` one below 0
abbrev pub is_of_negatives : Comparison → Float → Bool
is_of_negatives Below bound = le bound ZERO
is_of_negatives AtMost bound = lt bound ZERO
is_of_negatives Same bound = lt bound ZERO
is_of_negatives _ bound = false

abbrev pub for_negatives : Option Condition → Bool
for_negatives None = false
for_negatives (Some condition) = is_of_negatives condition.comparison condition.bound

-- it is failed by negative numbers only: `>` and `>=` a bound that isn't above 0, `<>` one below 0
abbrev pub is_but_negatives : Comparison → Float → Bool
is_but_negatives Above bound = le bound ZERO
is_but_negatives AtLeast bound = le bound ZERO
is_but_negatives Other bound = lt bound ZERO
is_but_negatives _ bound = false

abbrev pub but_negatives : Option Condition → Bool
but_negatives None = false
but_negatives (Some condition) = is_but_negatives condition.comparison condition.bound

-- the first condition that a number meets: its place, and whether it is for negative numbers anyway,
-- by itself or because one before it is failed by them only
abbrev pub one_later : Bool → Option (ℕ × Bool) → Option (ℕ × Bool)
one_later behind None = None
one_later behind (Some (place, negatives)) = Some (place + 1, behind || negatives)

abbrev pub chosen : Float → List (Option Condition) → Option (ℕ × Bool)
chosen x [] = None
chosen x (c ∷ cs) =
    if is_met x c then Some (0, for_negatives c) else one_later (but_negatives c) (chosen x cs)

-- ---- sections

abbrev pub is_date_kind : Kind → Bool
is_date_kind kind.Date = true
is_date_kind other = false

-- a section with `@` that is no date
abbrev pub is_for_texts : Section → Bool
is_for_texts s = s.has_text && not (is_date_kind s.kind)

-- without such a section at the end
abbrev pub without_texts : List Section → List Section
without_texts [] = []
without_texts (s ∷ []) = if is_for_texts s then [] else s ∷ []
without_texts (s ∷ t ∷ ss) = s ∷ without_texts (t ∷ ss)

-- the sections for numbers: the first three of four, or those before one for texts at the end
abbrev pub number_sections : List Section → List Section
number_sections (a ∷ b ∷ c ∷ d ∷ ss) = a ∷ b ∷ c ∷ []
number_sections ss = without_texts ss

-- the section for texts is the one behind them
abbrev pub texts_at : List Section → Option ℕ
texts_at ss =
    if nat_lt (length (number_sections ss)) (length ss) then Some (length (number_sections ss)) else None

-- its own condition, or this comparison with 0
abbrev pub own_or : Comparison → Section → Option Condition
own_or comparison s = later (Some (record { comparison = comparison; bound = ZERO })) s.condition

-- one section is for all numbers; of two the first is for those from 0 on; of three the first two
-- are for those above and below 0, and the third is for all, whatever its own condition
abbrev pub conditions_of : List Section → List (Option Condition)
conditions_of [] = []
conditions_of (a ∷ []) = a.condition ∷ []
conditions_of (a ∷ b ∷ []) = own_or AtLeast a ∷ b.condition ∷ []
conditions_of (a ∷ b ∷ c ∷ ss) = own_or Above a ∷ own_or Below b ∷ None ∷ []

-- of two conditions the first is met by negative numbers only
abbrev pub first_of_two : List (Option Condition) → Bool
first_of_two (a ∷ b ∷ []) = for_negatives a
first_of_two other = false

-- what a number is shown by where it meets none of so many: `########` of two, else General
abbrev pub unmet : ℕ → Float → Choice × Bool
unmet n x = if n == 2 then (choice.Hashes, false) else (choice.General, lt x ZERO)

-- the section that applies, and whether a minus stands before its text: where the number is below 0,
-- and the section isn't for negative numbers anyway
abbrev pub choice_by : Option (ℕ × Bool) → List (Option Condition) → Float → Choice × Bool
choice_by None cs x = unmet (length cs) x
choice_by (Some (place, negatives)) cs x =
    (choice.Section place, lt x ZERO && not (negatives || first_of_two cs))

-- a sole section without items is General
abbrev pub as_general : Choice × Bool → Choice × Bool
as_general (choice.Section place, minus) = (choice.General, minus)
as_general (other, minus) = (other, minus)

abbrev pub for_sole : List Section → Choice × Bool → Choice × Bool
for_sole (s ∷ []) chosen = if s.has_items then chosen else as_general chosen
for_sole other chosen = chosen

abbrev pub choice_of : List Section → Float → Choice × Bool
choice_of ss x =
    let cs = conditions_of (number_sections ss) in for_sole ss (choice_by (chosen x cs) cs x)

-- subnormal numbers count as 0
abbrev pub counted : ℕ → Float
counted bits = if exponent_of bits == 0 then ZERO else from_bits binary64 bits
