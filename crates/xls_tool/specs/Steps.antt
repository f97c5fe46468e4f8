-- How the work of a file and of a path ends, for the proofs.
use Rattle.std.specs.Prelude.{◌≡◌, ◌⊎◌, ℕ, List, Option, None, Result, Ok, Err}
use Rattle.xls_output.specs.SinkState.{SinkState}
use Rattle.xls_output.specs.declared.stop.Stop.{Stop}
use Rattle.xls_tool.specs.declared.job.Reading.{Reading}
use Rattle.xls_report.specs.Endings.{IsUntouched}
use Rattle.xls_tool.specs.Problems.{problem_status, status_of_work}
use Rattle.xls_answers.specs.declared.answer.Answer.{Answer}
use Rattle.xls_tool.specs.Texts.{Answered, HasCause, OfAnswer, OfText}
use Rattle.xls_tool.specs.declared.problem.Problem.{Problem}
use Rattle.xls_words.specs.declared.request.Command.{Command}
use Rattle.xls_words.specs.declared.request.Command.TheVariants.{Check}
use Rattle.xls_words.specs.declared.request.Request.{Request}

-- memory ran out, or no file may be found there
abbrev pub IsUnread : (Option (List ℕ) → Type 0) → Problem → Type 0
IsUnread finds p = (problem_status p ≡ 5) ⊎ ((problem_status p ≡ 10) × finds None)

-- memory ran out
abbrev pub RanOut : Result (Unit {0}) Problem → Type 0
RanOut (Ok x) = ⊥
RanOut (Err p) = problem_status p ≡ 5

-- a file was answered, unless memory ran out, maybe as its formats were told of
abbrev pub EndsAnswer : Answer → Reading → List ℕ → SinkState → SinkState → Result (Unit {0}) Problem → Type 0
EndsAnswer answer reading file before after result = RanOut result ⊎ OfAnswer answer reading file before after result

abbrev pub EndsText : Command → Reading → List ℕ → SinkState → SinkState → Result (Unit {0}) Problem → Type 0
EndsText command reading file before after result = RanOut result ⊎ OfText command reading file before after result

-- what is found there was answered; or nothing was written, since no file may be found there; or memory ran out
abbrev pub EndsPath : (Option (List ℕ) → Type 0) → Command → Reading → SinkState → SinkState → Result (Unit {0}) Problem → Type 0
EndsPath finds command reading before after (Ok x) = Answered finds command reading before after (Ok x)
EndsPath finds command reading before after (Err p) =
    (problem_status p ≡ 5)
    ⊎ (((problem_status p ≡ 10) × finds None × IsUntouched before after) ⊎ Answered finds command reading before after (Err p))

-- the exit status has its cause, where the text goes to standard output; a folder is checked file by file
abbrev pub OfPath : (Option (List ℕ) → Type 0) → Request → Reading → SinkState → SinkState → Result ℕ Stop → Type 0
OfPath finds request reading before after result =
    request.out ≡ None → (request.command ≡ Check → finds None → ⊥)
    → HasCause finds request.command reading before after (status_of_work result)
