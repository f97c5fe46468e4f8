-- A number of a cell under the code of its format: what it is, and how it is shown.
use Rattle.std.specs.Prelude.{◌≡◌, ℕ, Bool, true, false, if◌then◌else◌, List, Option, Some, None}
use Rattle.std.specs.Option.{is_some}
use Rattle.std.specs.Str.{chars}
use Rattle.xls_dates.specs.declared.numbers.Number.{Number}
use Rattle.xls_dates.specs.declared.numbers.Number.TheVariants.{Whole}
use Rattle.xls_dates.specs.declared.formats.CellFormat.{CellFormat}
use Rattle.xls_dates.specs.declared.formats.CellFormat.TheVariants as format
use Rattle.xls_data.specs.Content.{Content, int, float, date}
use Rattle.xls_data.specs.Formatted.{formatted_number, formatted_whole}
use Rattle.xls_decimals.specs.Decimals.{IsDecimal}
use Rattle.xls_decimals.specs.Moments.{moment_of, span_of}
use Rattle.xls_number_formats.specs.declared.classes.Class.{Class}
use Rattle.xls_number_formats.specs.declared.classes.Class.TheVariants as class
use Rattle.xls_number_formats.specs.Classes.{class_of}
use Rattle.xls_shown.specs.Shown.{IsShown}
use Rattle.xls_cell_formats.specs.Doubles.{bits_of, is_finite}

-- ---- what it is

abbrev pub format_of_class : Class → CellFormat
format_of_class class.Number = format.Other
format_of_class class.Date = format.DateTime
format_of_class class.Elapsed = format.TimeDelta

-- the section of the code that applies to a number decides what it is
abbrev pub class_under : List ℕ → Number → CellFormat
class_under code n = format_of_class (class_of code (bits_of n))

-- a date that none is, as one below 0 or after 9999-12-31, and a duration of as many days or more are plain numbers
abbrev pub class_in_range : CellFormat → Number → Bool → CellFormat
class_in_range format.DateTime n epoch = if is_some (moment_of epoch n) then format.DateTime else format.Other
class_in_range format.TimeDelta n epoch = if is_some (span_of n) then format.TimeDelta else format.Other
class_in_range format.Other n epoch = format.Other

-- a number of a class, in a date system
abbrev pub content_of_number : CellFormat → Number → Bool → Content
content_of_number class (Whole n) epoch = formatted_whole (Some class) n epoch
content_of_number class n epoch = formatted_number (Some class) n epoch

-- the number of a content, whatever class it was given
abbrev pub number_in : Content → Option Number
number_in (int n) = Some (Whole n)
number_in (float n) = Some n
number_in (date d) = Some d.number
number_in other = None

abbrev pub content_by : List ℕ → Bool → Option Number → Content → Content
content_by code epoch (Some n) other = content_of_number (class_in_range (class_under code n) n epoch) n epoch
content_by code epoch None other = other

-- a content of a cell whose format has this code: a number is what the code says, another content is as it was
abbrev pub content_under : List ℕ → Bool → Content → Content
content_under code epoch c = content_by code epoch (number_in c) c

-- ---- how it is shown

-- in decimal, by its characters
abbrev pub IsInDecimal : Number → List ℕ → Type 0
IsInDecimal n shown = (text : List ℕ) × IsDecimal n text × (shown ≡ chars text)

abbrev pub is_number_shown : Bool → List ℕ → Bool → Number → List ℕ → Type 0
is_number_shown true code is_1904 n shown = IsShown code is_1904 (bits_of n) shown
is_number_shown false code is_1904 n shown = IsInDecimal n shown

-- by its code; infinities and what is no number in decimal
abbrev pub IsNumberShown : List ℕ → Bool → Number → List ℕ → Type 0
IsNumberShown code is_1904 n shown = is_number_shown (is_finite (bits_of n)) code is_1904 n shown
