-- What a command writes of a file.
use Rattle.std.specs.Prelude.{Bool, true, false, Option, Some, None}
use Rattle.xls_answers.specs.Answers.{HasNumber}
use Rattle.xls_answers.specs.declared.answer.Answer.{Answer}
use Rattle.xls_answers.specs.declared.answer.Answer.TheVariants as answers
use Rattle.xls_readable.specs.declared.choices.Listing.{Listing}
use Rattle.xls_readable.specs.declared.choices.Listing.TheVariants as listing
use Rattle.xls_readable.specs.declared.forms.Form.{Form}
use Rattle.xls_readable.specs.declared.forms.Form.TheVariants.{Text, Json, Exact}
use Rattle.xls_words.specs.declared.request.Command.{Command}
use Rattle.xls_words.specs.declared.request.Command.TheVariants as commands
use Rattle.xls_words.specs.declared.request.Folder.{Folder}
use Rattle.xls_tool.specs.declared.job.Asked.{Asked}
use Rattle.xls_tool.specs.declared.job.Asked.TheVariants.{Workbook, Other}
use Rattle.xls_tool.specs.declared.job.Beside.TheVariants as beside

-- lines as xls_dump has them: its own where all are asked for
abbrev pub exact_lines : Listing → Answer
exact_lines listing.Dump = answers.Exact
exact_lines listing.Sheets = answers.Lines listing.Sheets Text
exact_lines listing.Formulas = answers.Lines listing.Formulas Text
exact_lines listing.Refs = answers.Lines listing.Refs Text

abbrev pub lines_of : Listing → Form → Answer
lines_of lines Text = answers.Lines lines Text
lines_of lines Json = answers.Lines lines Json
lines_of lines Exact = exact_lines lines

-- a text of the workbook, or of what stands beside it
abbrev pub asked_by : Command → Asked
asked_by (commands.Lines lines form) = Workbook (lines_of lines form)
asked_by (commands.Shown form) = Workbook (answers.Shown form)
asked_by commands.Check = Workbook answers.Check
asked_by (commands.Beside topic form) = Workbook (answers.Beside topic form)
asked_by (commands.Csv choice t sight) = Workbook (answers.Sheet choice t sight)
asked_by commands.Remake = Workbook answers.Remade
asked_by (commands.Stream None) = Workbook answers.Bytes
asked_by (commands.Stream (Some path)) = Other (beside.Stream path)
asked_by commands.Props = Other beside.Properties
asked_by commands.Vba = Other beside.Project
asked_by (commands.Macros form) = Other (beside.Macros form)
asked_by commands.Streams = Other beside.Streams

-- a sheet that is asked for by its number has one
abbrev pub AskedHasNumber : Asked → Type 0
AskedHasNumber (Workbook answer) = HasNumber answer
AskedHasNumber (Other beside) = Unit {0}

-- files that exist are left as they are, and that is no fault
abbrev pub skips_existing : Option Folder → Bool
skips_existing None = false
skips_existing (Some folder) = folder.skips_existing

-- the form of the lines that tell of many files
abbrev pub form_of_many : Bool → Form
form_of_many true = Json
form_of_many false = Text
