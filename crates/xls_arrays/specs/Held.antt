-- What a stream holds, as arrays, and why it isn't read.
use Rattle.std.specs.Prelude.{◌≡◌, ◌⊎◌, ℕ, ◌<◌, ◌≤◌, Bool, List, Some, length}
use Rattle.xls_meaning.specs.Reading.{BookView}
use Rattle.xls_container.specs.Obfuscation.{IsObfuscated}
use Rattle.xls_record.specs.declared.error.XlsError.TheVariants as errors
use Rattle.xls_open.specs.Workbook.{rules_of}
use Rattle.xls_view.specs.Viewing.{IsViewFault, IsViewed, Viewed}
use Rattle.xls_arrays.specs.declared.refusal.Refusal.{Refusal}
use Rattle.xls_arrays.specs.declared.refusal.Refusal.TheVariants as refusals
use Rattle.xls_arrays.specs.Arrays.{Arrays, Reported, arrays_of}
use Rattle.xls_arrays.specs.Options.{max_bytes_in, options_by}
use Rattle.xls_arrays.specs.Classed.{classed_book}
use Rattle.xls_arrays.specs.Displayed.{asked_for}
use Rattle.xls_arrays.specs.declared.options.Options.{Options}

-- the records aren't obfuscated, and the stream is within the limit of bytes
pub record IsPlainStream (options : Options) (stream : List ℕ) : Type 0 where
  pub readable : IsObfuscated stream → ⊥
  pub within : length stream ≤ max_bytes_in options

-- the view of a stream that is read
pub record ShowsStream (options : Options) (stream : List ℕ) (view : Viewed) : Type 0 where
  pub plain : IsPlainStream options stream
  pub viewed : IsViewed (rules_of (options_by options)) stream view

-- these are the arrays of the sheets that are asked for, whose numbers are what the codes of the cells say, and this
-- is the date system
pub record IsHeld (options : Options) (stream : List ℕ) (is_1904 : Bool) (a : Arrays) : Type 0 where
  pub view : Viewed
  pub shows : ShowsStream options stream view
  pub sheets : List Reported
  pub asked : asked_for options (classed_book view) ≡ Some sheets
  pub arrays : a ≡ arrays_of view.book.names sheets
  pub epoch : is_1904 ≡ view.book.is_1904

-- one sheet is asked for, of this index, which the workbook doesn't have
pub record Misses (options : Options) (book : BookView) (index : ℕ) : Type 0 where
  pub one : options.which ≡ 1
  pub asked : index ≡ options.sheet
  pub past : length book.sheets ≤ index

-- why its bytes alone refuse a stream: its records are obfuscated, or it has more bytes than the limit
abbrev pub RefusesBytes : Options → List ℕ → Refusal → Type 0
RefusesBytes options stream refusals.Obfuscated = IsObfuscated stream
RefusesBytes options stream (refusals.Stream error) =
    (IsObfuscated stream → ⊥) × (max_bytes_in options < length stream) × (error ≡ errors.TooLarge (max_bytes_in options))
RefusesBytes options stream other = ⊥

-- why a stream isn't read: its records are obfuscated, it has more bytes than the limit, its first fault, or no
-- such sheet; unless memory ran out
abbrev pub RefusesStream : Options → List ℕ → Refusal → Type 0
RefusesStream options stream refusals.Memory = Unit {0}
RefusesStream options stream refusals.Obfuscated = IsObfuscated stream
RefusesStream options stream (refusals.Stream error) =
    (IsObfuscated stream → ⊥)
    × (((max_bytes_in options < length stream) × (error ≡ errors.TooLarge (max_bytes_in options)))
    ⊎ ((length stream ≤ max_bytes_in options) × IsViewFault (rules_of (options_by options)) stream error))
RefusesStream options stream (refusals.NoSheet index) =
    (view : Viewed) × ShowsStream options stream view × Misses options view.book index
RefusesStream options stream other = ⊥
