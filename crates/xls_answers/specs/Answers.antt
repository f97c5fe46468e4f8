-- What is written of a file.
use Rattle.std.specs.Prelude.{◌≡◌, ◌⊎◌, ℕ, ◌<◌, List, [], length, Result, Ok, Err}
use Rattle.xls_stream.specs.Listing.{ListEntry}
use Rattle.xls_record.specs.declared.error.XlsError.TheVariants.{TooLarge}
use Rattle.xls_open.specs.declared.options.XlsOptions.{XlsOptions}
use Rattle.xls_open.specs.Globals.{State}
use Rattle.xls_open.specs.Opening.{default_options}
use Rattle.xls_open.specs.Workbook.{rules_of}
use Rattle.xls_view.specs.Viewing.{IsViewFault}
use Rattle.xls_lay.specs.Reading.{ReadsList, IsFirst}
use Rattle.xls_lay.specs.Writing.{WritesList}
use Rattle.xls_output.specs.SinkState.{SinkState}
use Rattle.xls_output.specs.Each.{StopsEach, WroteEach}
use Rattle.xls_output.specs.Gathering.{Stops, Wrote}
use Rattle.xls_output.specs.declared.stop.Stop.TheVariants.{Memory}
use Rattle.xls_report.specs.Endings.{IsUntouched}
use Rattle.xls_report.specs.Faults.{sound_line}
use Rattle.xls_container.specs.Files.{WorkbookBytes, RefusesFile}
use Rattle.xls_container.specs.Obfuscation.{IsObfuscated}
use Rattle.xls_answers.specs.declared.answer.Answer.{Answer}
use Rattle.xls_answers.specs.declared.answer.Answer.TheVariants as answers
use Rattle.xls_answers.specs.declared.failure.Failure.{Failure}
use Rattle.xls_answers.specs.declared.failure.Failure.TheVariants as failures
use Rattle.xls_readable.specs.Choices.{IsNumbered}
use Rattle.xls_readable.specs.declared.forms.Form.{Form}
use Rattle.xls_beside.specs.Checked.{HasGlobals}
use Rattle.xls_beside.specs.Topics.{beside_lines}
use Rattle.xls_beside.specs.declared.topics.Topic.{Topic}
use Rattle.xls_beside.specs.Lines.{IsLineText, Line}
use Rattle.xls_answers.specs.Views.{OfView, AreLines, BeginLines, AreShownLines, BeginShownLines, IsDump, MissesNone, rules_shown}
use Rattle.xls_answers.specs.Sheets.{IsTableOf, BeginsTableOf, MissesSheet}

-- ---- of a workbook's stream

-- the line of bytes without a fault, or their first fault
abbrev pub OfCheck : XlsOptions → List ℕ → SinkState → SinkState → Result (Unit {0}) Failure → Type 0
OfCheck options bytes before after (Ok x) = ((e : _) → IsViewFault (rules_of options) bytes e → ⊥) × Wrote before after sound_line
OfCheck options bytes before after (Err (failures.Stream e)) = IsViewFault (rules_of options) bytes e × IsUntouched before after
OfCheck options bytes before after (Err (failures.Stopped s)) =
    ((s ≡ Memory) × IsUntouched before after) ⊎ (((e : _) → IsViewFault (rules_of options) bytes e → ⊥) × Stops before [] after sound_line s)
OfCheck options bytes before after (Err other) = ⊥

-- the lines of what stands beside the values, by what is in force at the end of the globals
abbrev pub lines_beside : Topic → State → List ℕ → List Line
lines_beside topic globals bytes = beside_lines topic globals.version globals.page globals.sheets bytes

-- those lines, or a prefix of them, or the first fault of the bytes
abbrev pub OfBeside : Topic → Form → XlsOptions → List ℕ → SinkState → SinkState → Result (Unit {0}) Failure → Type 0
OfBeside topic form options bytes before after (Ok x) =
    (globals : State) × HasGlobals options bytes globals
    × WroteEach (IsLineText form) (lines_beside topic globals bytes) before after
OfBeside topic form options bytes before after (Err (failures.Stream e)) = IsViewFault (rules_of options) bytes e × IsUntouched before after
OfBeside topic form options bytes before after (Err (failures.Stopped s)) =
    ((s ≡ Memory) × IsUntouched before after)
    ⊎ ((globals : State) × HasGlobals options bytes globals
    × StopsEach (IsLineText form) (lines_beside topic globals bytes) before after s)
OfBeside topic form options bytes before after (Err other) = ⊥

-- how many bytes a stream may have that is written once more
abbrev pub remade_limit : ℕ
remade_limit = default_options.max_bytes

-- the canonical bytes of the list that the bytes carry, or why not
abbrev pub OfRemade : List ℕ → SinkState → SinkState → Result (Unit {0}) Failure → Type 0
OfRemade bytes before after (Ok x) =
    (list : List ListEntry) × ReadsList bytes (Ok list) × (text : List ℕ) × WritesList list (Ok text) × Wrote before after text
OfRemade bytes before after (Err (failures.Stream e)) =
    (((e ≡ TooLarge remade_limit) × (remade_limit < length bytes)) ⊎ IsFirst bytes e) × IsUntouched before after
OfRemade bytes before after (Err (failures.Canonical e)) =
    (list : List ListEntry) × ReadsList bytes (Ok list) × WritesList list (Err e) × IsUntouched before after
OfRemade bytes before after (Err (failures.Stopped s)) =
    ((s ≡ Memory) × IsUntouched before after)
    ⊎ ((list : List ListEntry) × ReadsList bytes (Ok list) × (text : List ℕ) × WritesList list (Ok text) × Stops before [] after text s)
OfRemade bytes before after (Err other) = ⊥

-- the bytes as they stand
abbrev pub OfBytes : List ℕ → SinkState → SinkState → Result (Unit {0}) Failure → Type 0
OfBytes bytes before after (Ok x) = Wrote before after bytes
OfBytes bytes before after (Err (failures.Stopped s)) = Stops before [] after bytes s
OfBytes bytes before after (Err other) = ⊥

abbrev pub OfStream : Answer → XlsOptions → List ℕ → SinkState → SinkState → Result (Unit {0}) Failure → Type 0
OfStream (answers.Lines lines form) options bytes =
    OfView (rules_shown form options) bytes (AreLines lines form) (BeginLines lines form) MissesNone
OfStream (answers.Shown form) options bytes =
    OfView (rules_shown form options) bytes (AreShownLines form) (BeginShownLines form) MissesNone
OfStream answers.Exact options bytes = OfView (rules_of options) bytes IsDump IsDump MissesNone
OfStream (answers.Sheet choice table sight) options bytes =
    OfView (rules_of options) bytes (IsTableOf choice table sight options bytes) (BeginsTableOf choice table sight options bytes)
    (MissesSheet choice)
OfStream answers.Check options bytes = OfCheck options bytes
OfStream (answers.Beside topic form) options bytes = OfBeside topic form options bytes
OfStream answers.Remade options bytes = OfRemade bytes
OfStream answers.Bytes options bytes = OfBytes bytes

-- the same of a stream that isn't obfuscated
abbrev pub OfReadable : Answer → XlsOptions → List ℕ → SinkState → SinkState → Result (Unit {0}) Failure → Type 0
OfReadable answer options bytes before after (Err failures.Obfuscated) = IsObfuscated bytes × IsUntouched before after
OfReadable answer options bytes before after result = OfStream answer options bytes before after result

-- a sheet that is asked for by its number has one
abbrev pub HasNumber : Answer → Type 0
HasNumber (answers.Sheet choice table sight) = IsNumbered choice
HasNumber (answers.Lines lines form) = Unit {0}
HasNumber (answers.Shown form) = Unit {0}
HasNumber answers.Exact = Unit {0}
HasNumber answers.Check = Unit {0}
HasNumber (answers.Beside topic form) = Unit {0}
HasNumber answers.Remade = Unit {0}
HasNumber answers.Bytes = Unit {0}

-- ---- of a file

-- what is written of the workbook's stream in it; or nothing, since it gives no workbook, its records are
-- obfuscated, or memory ran out
abbrev pub OfFile : Answer → XlsOptions → List ℕ → SinkState → SinkState → Result (Unit {0}) Failure → Type 0
OfFile answer options file before after (Err (failures.File f)) = RefusesFile file f × IsUntouched before after
OfFile answer options file before after (Err (failures.Stopped s)) =
    ((s ≡ Memory) × IsUntouched before after)
    ⊎ ((bytes : List ℕ) × WorkbookBytes file bytes × OfStream answer options bytes before after (Err (failures.Stopped s)))
OfFile answer options file before after result =
    (bytes : List ℕ) × WorkbookBytes file bytes × OfReadable answer options bytes before after result
