-- The exit status of each problem, and how many files are told of it.
use Rattle.std.specs.Prelude.{◌≡◌, ◌⊎◌, ℕ, ◌==◌, Bool, true, false, ◌||◌, ◌&&◌, if◌then◌else◌, Result, Ok, Err}
use Rattle.xls_answers.specs.Failures as failures
use Rattle.xls_answers.specs.declared.failure.Failure.TheVariants.{Stopped}
use Rattle.xls_documents.specs.declared.fault.ProjectFault.{ProjectFault}
use Rattle.xls_documents.specs.declared.fault.ProjectFault.TheVariants as faults
use Rattle.xls_output.specs.declared.stop.Stop.{Stop}
use Rattle.xls_output.specs.declared.stop.Stop.TheVariants as stop
use Rattle.xls_files.specs.declared.host.Reason.TheVariants.{Memory, Exists, Reported}
use Rattle.xls_passwords.specs.declared.opening.Refusal.TheVariants as refusal
use Rattle.xls_passwords.specs.declared.scheme.FilePassFault.TheVariants as pass
use Rattle.xls_tool.specs.declared.problem.Outcome.{Outcome}
use Rattle.xls_tool.specs.declared.problem.Outcome.TheVariants as outcome
use Rattle.xls_tool.specs.declared.problem.Problem.{Problem}
use Rattle.xls_tool.specs.declared.problem.Problem.TheVariants as problems

abbrev pub problem_status : Problem → ℕ
problem_status (problems.Unread Memory) = 5
problem_status (problems.Unread Exists) = 10
problem_status (problems.Unread (Reported t)) = 10
problem_status problems.Folder = 10
problem_status problems.Irregular = 10
problem_status (problems.Failure f) = failures.status_of f
problem_status (problems.Absent a) = 12
problem_status (problems.Project f) = 11
problem_status (problems.Encrypted (refusal.FilePass (pass.Length e f))) = 1
problem_status (problems.Encrypted (refusal.FilePass pass.Unread)) = 17
problem_status (problems.Encrypted refusal.PasswordWanted) = 17
problem_status (problems.Encrypted refusal.NoneFits) = 17
problem_status (problems.Unwritten path Memory) = 5
problem_status (problems.Unwritten path Exists) = 16
problem_status (problems.Unwritten path (Reported t)) = 16

-- the exit status of a file whose text was to be written
abbrev pub status_of_file : Result (Unit {0}) Problem → ℕ
status_of_file (Ok x) = 0
status_of_file (Err p) = problem_status p

-- the exit status of work that ends with one, or is stopped
abbrev pub status_of_work : Result ℕ Stop → ℕ
status_of_work (Ok n) = n
status_of_work (Err stop.Memory) = 5
status_of_work (Err stop.Write) = 4
status_of_work (Err stop.Read) = 4

-- the statuses of a file that can't be read, or that gives no workbook
abbrev pub is_unread : ℕ → Bool
is_unread n = (n == 10) || ((n == 11) || ((n == 12) || (n == 17)))

-- what a line of many files says of a status
abbrev pub outcome_for : ℕ → Outcome
outcome_for n = if n == 1 then outcome.Refused else if is_unread n then outcome.Unread else outcome.Failed

-- a file for the text exists, and is left as it was
abbrev pub is_existing : Problem → Bool
is_existing (problems.Unwritten path Exists) = true
is_existing p = false

abbrev pub outcome_of : Problem → Outcome
outcome_of p = if is_existing p then outcome.Exists else outcome_for (problem_status p)

-- the exit status that a file's line counts with: where files that exist are to be skipped, such a one is no fault
abbrev pub counted_status : Bool → Result (Unit {0}) Problem → ℕ
counted_status skips (Ok x) = 0
counted_status skips (Err p) = if skips && is_existing p then 0 else problem_status p

-- a fault of the file, and out of memory, are told alike, wherever they were
abbrev pub problem_of_project : ProjectFault → Problem
problem_of_project (faults.File f) = problems.Failure (failures.failure_of_fault f)
problem_of_project faults.Memory = problems.Failure (Stopped stop.Memory)
problem_of_project (faults.Compression e) = problems.Project (faults.Compression e)
problem_of_project (faults.Directory e) = problems.Project (faults.Directory e)

-- the statuses of files: all but that of wrong words
abbrev pub IsStatus : ℕ → Type 0
IsStatus n = ((n == 0) || ((n == 1) || ((n == 4) || ((n == 5) || ((n == 16) || is_unread n))))) ≡ true

-- such a status; or that of wrong words, where nothing was written
abbrev pub Ends : {K : Type 0} → K → K → ℕ → Type 0
Ends before after n = ((n ≡ 2) × (after ≡ before)) ⊎ IsStatus n
