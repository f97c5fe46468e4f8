-- What is written of a workbook that is looked at.
use Rattle.std.specs.Prelude.{◌≡◌, ◌⊎◌, ℕ, Bool, true, false, Option, List, [], ◌++◌, take, Result, Ok, Err}
use Rattle.xls_container.specs.Obfuscation.{IsObfuscated}
use Rattle.xls_formula.specs.Table.{from_index_72}
use Rattle.xls_formula.specs.declared.numbers.NumberStyle.{NumberStyle}
use Rattle.xls_formula.specs.declared.numbers.NumberStyle.TheVariants.{Bits, Decimal}
use Rattle.xls_formula.specs.Functions.{shipped}
use Rattle.xls_meaning.specs.Rules.{Rules}
use Rattle.xls_open.specs.Opening.{default_options}
use Rattle.xls_open.specs.Workbook.{rules_of, rules_under}
use Rattle.xls_open.specs.declared.options.XlsOptions.{XlsOptions}
use Rattle.xls_view.specs.Viewing.{Viewed, IsViewed, IsViewFault}
use Rattle.xls_output.specs.SinkState.{SinkState}
use Rattle.xls_output.specs.Gathering.{Stops, Wrote}
use Rattle.xls_output.specs.declared.stop.Stop.TheVariants.{Memory}
use Rattle.xls_output.specs.Each.{Concatenates}
use Rattle.xls_readable.specs.declared.forms.Form.{Form}
use Rattle.xls_readable.specs.declared.forms.Form.TheVariants.{Text, Json, Exact}
use Rattle.xls_refs.specs.Views.{cited_in}
use Rattle.xls_listing.specs.Listing.{Line, IsDisplayedLine, exact_lines, dump_lines, listed_lines, sheet_lines, formula_lines, ref_lines}
use Rattle.xls_listing.specs.declared.readings.CellReading.{CellReading}
use Rattle.xls_listing.specs.declared.readings.CellReading.TheVariants.{Recorded, ByCode, Shown}
use Rattle.xls_report.specs.Endings.{IsUntouched}
use Rattle.xls_readable.specs.declared.choices.Listing.{Listing}
use Rattle.xls_readable.specs.declared.choices.Listing.TheVariants as listing
use Rattle.xls_answers.specs.declared.failure.Failure.{Failure}
use Rattle.xls_answers.specs.declared.failure.Failure.TheVariants as failures
use Rattle.xls_answers.specs.declared.failure.Missing.{Missing}

-- ---- how a workbook is read

-- the options by default under a forced page; all functions have their names, unless texts are exact
abbrev pub options_under : Option ℕ → Bool → XlsOptions
options_under page true = record default_options { force_codepage = page }
options_under page false = record default_options { force_codepage = page; functions = shipped ++ from_index_72 }

-- how formulas show doubles in the lines of a form
abbrev pub numbers_in : Form → NumberStyle
numbers_in Text = Decimal
numbers_in Json = Decimal
numbers_in Exact = Bits

-- what the lines of a form hang on
abbrev pub rules_shown : Form → XlsOptions → Rules
rules_shown form options = rules_under (numbers_in form) options

-- why a stream isn't looked at
abbrev pub RefusesView : XlsOptions → List ℕ → Failure → Type 0
RefusesView options bytes failures.Obfuscated = IsObfuscated bytes
RefusesView options bytes (failures.Stream e) = IsViewFault (rules_of options) bytes e
RefusesView options bytes (failures.Stopped s) = s ≡ Memory
RefusesView options bytes other = ⊥

-- ---- lines

-- how cells are read for the lines of a form
abbrev pub reading_in : Form → CellReading
reading_in Text = ByCode
reading_in Json = ByCode
reading_in Exact = Recorded

abbrev pub lines_listed : Listing → Form → Viewed → List Line
lines_listed listing.Dump form view = listed_lines (reading_in form) view
lines_listed listing.Sheets form view = sheet_lines view.book
lines_listed listing.Formulas form view = formula_lines view.book
lines_listed listing.Refs form view = ref_lines (cited_in view)

-- lines in a form, all of them, and the first so many
abbrev pub AreTexts : Form → List Line → List ℕ → Type 0
AreTexts form lines text = Concatenates (IsDisplayedLine form) lines text

abbrev pub BeginTexts : Form → List Line → List ℕ → Type 0
BeginTexts form lines text = (count : ℕ) × Concatenates (IsDisplayedLine form) (take count lines) text

-- the lines of a view
abbrev pub AreLines : Listing → Form → Viewed → List ℕ → Type 0
AreLines lines form view text = AreTexts form (lines_listed lines form view) text

abbrev pub BeginLines : Listing → Form → Viewed → List ℕ → Type 0
BeginLines lines form view text = BeginTexts form (lines_listed lines form view) text

-- those of all that it holds, each cell with what Excel shows
abbrev pub AreShownLines : Form → Viewed → List ℕ → Type 0
AreShownLines form view text = AreTexts form (listed_lines Shown view) text

abbrev pub BeginShownLines : Form → Viewed → List ℕ → Type 0
BeginShownLines form view text = BeginTexts form (listed_lines Shown view) text

-- all that a workbook holds, exactly
abbrev pub IsDump : Viewed → List ℕ → Type 0
IsDump view text = text ≡ exact_lines (dump_lines view.book)

-- no sheet is asked for
abbrev pub MissesNone : Missing → Viewed → Type 0
MissesNone missing view = ⊥

-- ---- texts of a view

-- of bytes without a fault the whole text of their view was written; or a prefix of a part of it; or nothing,
-- since the bytes have a fault, the view has no such sheet, or memory ran out
abbrev pub OfView : Rules → List ℕ → (IsWhole IsPart : Viewed → List ℕ → Type 0) → (Missing → Viewed → Type 0)
    → SinkState → SinkState → Result (Unit {0}) Failure → Type 0
OfView rules bytes IsWhole IsPart Misses before after (Ok x) =
    (view : Viewed) × IsViewed rules bytes view × (text : List ℕ) × IsWhole view text × Wrote before after text
OfView rules bytes IsWhole IsPart Misses before after (Err (failures.Stream e)) =
    IsViewFault rules bytes e × IsUntouched before after
OfView rules bytes IsWhole IsPart Misses before after (Err (failures.Missing m)) =
    (view : Viewed) × IsViewed rules bytes view × Misses m view × IsUntouched before after
OfView rules bytes IsWhole IsPart Misses before after (Err (failures.Stopped s)) =
    ((s ≡ Memory) × IsUntouched before after)
    ⊎ ((view : Viewed) × IsViewed rules bytes view × (text : List ℕ) × IsPart view text × Stops before [] after text s)
OfView rules bytes IsWhole IsPart Misses before after (Err (failures.File f)) = ⊥
OfView rules bytes IsWhole IsPart Misses before after (Err failures.Obfuscated) = ⊥
OfView rules bytes IsWhole IsPart Misses before after (Err (failures.Canonical e)) = ⊥
