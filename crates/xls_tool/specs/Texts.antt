-- What is written of a file, and which cause an exit status has.
use Rattle.std.specs.Prelude.{◌≡◌, ◌⊎◌, ℕ, Bool, List, [], Option, None, Some, Result, Ok, Err}
use Rattle.xls_answers.specs.Answers.{OfReadable}
use Rattle.xls_answers.specs.Views.{options_under}
use Rattle.xls_answers.specs.declared.failure.Failure.TheVariants as failures
use Rattle.xls_container.specs.Files.{RefusesFile, WorkbookBytes}
use Rattle.xls_answers.specs.declared.answer.Answer.{Answer}
use Rattle.xls_output.specs.SinkState.{SinkState}
use Rattle.xls_output.specs.declared.stop.Stop.TheVariants.{Memory}
use Rattle.xls_open.specs.declared.options.XlsOptions.{XlsOptions}
use Rattle.xls_tool.specs.declared.job.Reading.{Reading}
use Rattle.xls_report.specs.Endings.{IsUntouched}
use Rattle.xls_words.specs.declared.request.Command.{Command}
use Rattle.xls_tool.specs.Asked.{asked_by}
use Rattle.xls_tool.specs.Beside.{OfBeside}
use Rattle.xls_tool.specs.Problems.{status_of_file}
use Rattle.xls_passwords.specs.Opening.{opened}
use Rattle.xls_passwords.specs.declared.opening.Refusal.{Refusal}
use Rattle.xls_tool.specs.declared.job.Asked.{Asked}
use Rattle.xls_tool.specs.declared.job.Asked.TheVariants.{Workbook, Other}
use Rattle.xls_tool.specs.declared.problem.Problem.{Problem}
use Rattle.xls_tool.specs.declared.problem.Problem.TheVariants as problems

-- the whole answer was written of a workbook's stream, or what a failure leaves of it
abbrev pub OfWorkbook : Answer → XlsOptions → List ℕ → SinkState → SinkState → Result (Unit {0}) Problem → Type 0
OfWorkbook answer options stream before after (Ok x) = OfReadable answer options stream before after (Ok x)
OfWorkbook answer options stream before after (Err (problems.Failure f)) = OfReadable answer options stream before after (Err f)
OfWorkbook answer options stream before after (Err other) = ⊥

-- of a stream that a password makes plain, or that is plain; or why it isn't made so
abbrev pub OfOpened : Result (List ℕ) Refusal → Answer → XlsOptions → SinkState → SinkState → Result (Unit {0}) Problem → Type 0
OfOpened (Ok plain) answer options before after result = OfWorkbook answer options plain before after result
OfOpened (Err refusal) answer options before after result = (result ≡ Err (problems.Encrypted refusal)) × IsUntouched before after

-- likewise of a file; or nothing, since it gives no workbook, or memory ran out
abbrev pub OfAnswer : Answer → Reading → List ℕ → SinkState → SinkState → Result (Unit {0}) Problem → Type 0
OfAnswer answer reading file before after (Err (problems.Failure (failures.File f))) = RefusesFile file f × IsUntouched before after
OfAnswer answer reading file before after (Err (problems.Failure (failures.Stopped s))) =
    ((s ≡ Memory) × IsUntouched before after)
    ⊎ ((stream : List ℕ) × WorkbookBytes file stream
    × OfOpened (opened stream reading.passwords) answer reading.options before after (Err (problems.Failure (failures.Stopped s))))
OfAnswer answer reading file before after result =
    (stream : List ℕ) × WorkbookBytes file stream
    × OfOpened (opened stream reading.passwords) answer reading.options before after result

-- likewise, or what is written of what stands beside the workbook
abbrev pub OfGiven : Asked → Reading → List ℕ → SinkState → SinkState → Result (Unit {0}) Problem → Type 0
OfGiven (Workbook answer) reading file before after result = OfAnswer answer reading file before after result
OfGiven (Other beside) reading file before after result = OfBeside beside file before after result

-- what a command writes of a file
abbrev pub OfText : Command → Reading → List ℕ → SinkState → SinkState → Result (Unit {0}) Problem → Type 0
OfText command = OfGiven (asked_by command)

-- how workbooks are read without a word on it: only the password is tried that Excel tries by itself
abbrev pub reading_under : Option ℕ → Bool → Reading
reading_under page exact = record { options = options_under page exact; passwords = [] }

-- ---- of one path

-- bytes that may be found there were answered, with this result
abbrev pub Answered : (Option (List ℕ) → Type 0) → Command → Reading → SinkState → SinkState → Result (Unit {0}) Problem → Type 0
Answered finds command reading before after result =
    (file : List ℕ) × finds (Some file) × OfText command reading file before after result

-- each exit status of a path has its cause, and only that of memory is free: 2 and 10 come where nothing is written, since
-- no file may be found there; each other status is that of the answer to what is found
abbrev pub HasCause : (Option (List ℕ) → Type 0) → Command → Reading → SinkState → SinkState → ℕ → Type 0
HasCause finds command reading before after n =
    (n ≡ 5)
    ⊎ (((n ≡ 2) × finds None × IsUntouched before after)
    ⊎ (((n ≡ 10) × finds None × IsUntouched before after)
    ⊎ ((result : Result (Unit {0}) Problem) × Answered finds command reading before after result × (n ≡ status_of_file result))))
