-- Whether a number format shows a number as a date, as an elapsed time, or as a number.
use Rattle.std.specs.Prelude.{ℕ, List, ◌==◌, if◌then◌else◌, Option, Some, None}
use Rattle.std.specs.List.{slice_get}
use Rattle.xls_bytes.specs.Doubles.{exponent_of}
use Rattle.xls_number_formats.specs.declared.sections.Section.{Section}
use Rattle.xls_number_formats.specs.declared.choices.Choice.{Choice}
use Rattle.xls_number_formats.specs.declared.choices.Choice.TheVariants as choice
use Rattle.xls_number_formats.specs.declared.classes.Class.{Class}
use Rattle.xls_number_formats.specs.declared.classes.Class.TheVariants.{Number, Date, Elapsed}
use Rattle.xls_number_formats.specs.Sections.{sections_of}
use Rattle.xls_number_formats.specs.Choices.{is_date_kind, choice_of, counted}

abbrev pub class_of_section : Section → Class
class_of_section s = if is_date_kind s.kind then (if s.has_elapsed then Elapsed else Date) else Number

abbrev pub class_at : Option Section → Class
class_at (Some s) = class_of_section s
class_at None = Number

-- that of the section which applies; General and `########` are no dates
abbrev pub class_by : List Section → Choice → Class
class_by ss (choice.Section place) = class_at (slice_get ss place)
class_by ss other = Number

-- of a double's bits, under these sections; infinities and what is no number are shown by none
abbrev pub class_in : List Section → ℕ → Class
class_in ss bits =
    if exponent_of bits == 2047 then Number else class_by ss (choice_of ss (counted bits)).0

abbrev pub class_of : List ℕ → ℕ → Class
class_of cs bits = class_in (sections_of cs) bits
