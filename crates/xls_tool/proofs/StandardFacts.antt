-- What users are told of a file's problem, as docs/xls.md has it, so that a wrong text in the definitions does not check.
use Rattle.std.proofs.Common.{◌≡◌, ℕ, true, false, [], ◌∷◌, Some, None, Ok, Err, map, refl, codes}
use Rattle.xls_documents.specs.declared.fault.ProjectFault.{ProjectFault}
use Rattle.xls_files.specs.declared.host.Reason.TheVariants as reasons
use Rattle.xls_output.specs.declared.stop.Stop.TheVariants as stop
use Rattle.xls_passwords.specs.declared.opening.Refusal.TheVariants as refusal
use Rattle.xls_passwords.specs.declared.scheme.FilePassFault.TheVariants as pass
use Rattle.xls_tool.specs.Displayed.{absent_text, problem_text}
use Rattle.xls_tool.specs.Problems.{counted_status, outcome_for, outcome_of, problem_status, status_of_work}
use Rattle.xls_tool.specs.declared.problem.Outcome.TheVariants as outcome
use Rattle.xls_tool.specs.declared.problem.Absent.TheVariants.{Properties, Project, Stream, Compound}
use Rattle.xls_tool.specs.declared.problem.Problem.TheVariants as problems
use Rattle.xls_beside.specs.declared.topics.Topic.{Topic}
use Rattle.xls_readable.specs.declared.choices.Listing.TheVariants.{Dump, Sheets, Formulas, Refs}
use Rattle.xls_readable.specs.declared.choices.SheetChoice.{SheetChoice}
use Rattle.xls_hidden_cells.specs.declared.sight.Sight.{Sight}
use Rattle.xls_readable.specs.declared.choices.Table.{Table}
use Rattle.xls_readable.specs.declared.forms.Form.TheVariants.{Text, Json, Exact}
use Rattle.xls_answers.specs.declared.answer.Answer.TheVariants as answers
use Rattle.xls_words.specs.declared.request.Command.TheVariants as commands
use Rattle.xls_tool.specs.Asked.{asked_by}
use Rattle.xls_tool.specs.declared.job.Asked.TheVariants.{Workbook, Other}
use Rattle.xls_tool.specs.declared.job.Beside.TheVariants as beside

pub known_absences : map absent_text (Properties ∷ Project ∷ Stream ∷ Compound ∷ [])
    ≡ codes "it has no property streams" ∷ codes "it has no macro project (no stream VBA/dir)" ∷ codes "it has no such stream"
    ∷ codes "it is a workbook's stream alone, without other streams" ∷ []
known_absences = refl

pub known_problems : map problem_text (problems.Unread reasons.Memory ∷ problems.Folder ∷ problems.Irregular ∷ problems.Absent Stream ∷ [])
    ≡ codes "out of memory" ∷ codes "it is a folder" ∷ codes "it is no regular file" ∷ codes "it has no such stream" ∷ []
known_problems = refl

-- ---- exit statuses, as docs/xls.md has them

pub known_statuses : (text : _) (fault : ProjectFault) → map problem_status
    (problems.Unread reasons.Memory ∷ problems.Unread reasons.Exists ∷ problems.Unread (reasons.Reported text) ∷ problems.Folder ∷ problems.Irregular ∷ problems.Absent Stream
    ∷ problems.Project fault ∷ problems.Unwritten text reasons.Memory ∷ problems.Unwritten text reasons.Exists
    ∷ problems.Unwritten text (reasons.Reported text) ∷ [])
    ≡ 5 ∷ 10 ∷ 10 ∷ 10 ∷ 10 ∷ 12 ∷ 11 ∷ 5 ∷ 16 ∷ 16 ∷ []
known_statuses text fault = refl

pub known_locks : map problem_status
    (problems.Encrypted (refusal.FilePass (pass.Length 54 53)) ∷ problems.Encrypted (refusal.FilePass pass.Unread)
    ∷ problems.Encrypted refusal.PasswordWanted ∷ problems.Encrypted refusal.NoneFits ∷ [])
    ≡ 1 ∷ 17 ∷ 17 ∷ 17 ∷ []
known_locks = refl

pub known_ends : (n : ℕ) → map status_of_work (Ok n ∷ Err stop.Memory ∷ Err stop.Write ∷ Err stop.Read ∷ []) ≡ n ∷ 5 ∷ 4 ∷ 4 ∷ []
known_ends n = refl

pub known_outcomes : map outcome_for (1 ∷ 4 ∷ 5 ∷ 10 ∷ 11 ∷ 12 ∷ 16 ∷ 17 ∷ [])
    ≡ outcome.Refused ∷ outcome.Failed ∷ outcome.Failed ∷ outcome.Unread ∷ outcome.Unread ∷ outcome.Unread ∷ outcome.Failed ∷ outcome.Unread ∷ []
known_outcomes = refl

-- a file for the text exists: a word of its own, and no fault where such ones are to be skipped
pub known_existing : (text : _) → map outcome_of (problems.Unwritten text reasons.Exists ∷ problems.Unwritten text reasons.Memory ∷ [])
    ≡ outcome.Exists ∷ outcome.Failed ∷ []
known_existing text = refl

pub known_counts : (text : _) → map (λ skips. counted_status skips (Err (problems.Unwritten text reasons.Exists))) (true ∷ false ∷ []) ≡ 0 ∷ 16 ∷ []
known_counts text = refl

pub known_other_counts : (text : _) → map (λ skips. counted_status skips (Err (problems.Unwritten text (reasons.Reported text)))) (true ∷ false ∷ [])
    ≡ 16 ∷ 16 ∷ []
known_other_counts text = refl

-- ---- what each command writes, whole

pub known_asked : (s : SheetChoice) (t : Table) (sight : Sight) (b : Topic) → map asked_by
    (commands.Lines Dump Text ∷ commands.Lines Sheets Text ∷ commands.Lines Formulas Text ∷ commands.Lines Refs Text
    ∷ commands.Lines Dump Json ∷ commands.Lines Sheets Json ∷ commands.Lines Formulas Json ∷ commands.Lines Refs Json
    ∷ commands.Lines Dump Exact ∷ commands.Lines Sheets Exact ∷ commands.Lines Formulas Exact ∷ commands.Lines Refs Exact
    ∷ commands.Check ∷ commands.Beside b Text ∷ commands.Beside b Json ∷ commands.Csv s t sight ∷ commands.Remake ∷ commands.Stream None
    ∷ commands.Shown Text ∷ commands.Shown Json ∷ [])
    ≡ map Workbook
    (answers.Lines Dump Text ∷ answers.Lines Sheets Text ∷ answers.Lines Formulas Text ∷ answers.Lines Refs Text
    ∷ answers.Lines Dump Json ∷ answers.Lines Sheets Json ∷ answers.Lines Formulas Json ∷ answers.Lines Refs Json
    ∷ answers.Exact ∷ answers.Lines Sheets Text ∷ answers.Lines Formulas Text ∷ answers.Lines Refs Text
    ∷ answers.Check ∷ answers.Beside b Text ∷ answers.Beside b Json ∷ answers.Sheet s t sight ∷ answers.Remade ∷ answers.Bytes
    ∷ answers.Shown Text ∷ answers.Shown Json ∷ [])
known_asked s t sight b = refl

pub known_others : (path : _) → map asked_by (commands.Props ∷ commands.Vba ∷ commands.Stream (Some path) ∷ commands.Streams ∷ [])
    ≡ map Other (beside.Properties ∷ beside.Project ∷ beside.Stream path ∷ beside.Streams ∷ [])
known_others path = refl
