-- What is printed of each problem.
use Rattle.std.specs.Prelude.{ℕ, List, ◌++◌, codes}
use Rattle.std.specs.Str.{chars}
use Rattle.std.specs.String.{string_bytes}
use Rattle.xls_bytes.specs.Escapes.{escaped_text}
use Rattle.xls_answers.specs.Texts.{failure_text}
use Rattle.xls_documents.specs.Texts as documents
use Rattle.xls_files.specs.Reasons.{reason_text}
use Rattle.xls_passwords.specs.Opening.{refusal_text}
use Rattle.xls_tool.specs.declared.problem.Absent.{Absent}
use Rattle.xls_tool.specs.declared.problem.Absent.TheVariants as absent
use Rattle.xls_tool.specs.declared.problem.Outcome.{Outcome}
use Rattle.xls_tool.specs.declared.problem.Outcome.TheVariants as outcome
use Rattle.xls_tool.specs.declared.problem.Problem.{Problem}
use Rattle.xls_tool.specs.declared.problem.Problem.TheVariants as problems

abbrev pub absent_text : Absent → List ℕ
absent_text absent.Properties = codes "it has no property streams"
absent_text absent.Project = codes "it has no macro project (no stream VBA/dir)"
absent_text absent.Stream = codes "it has no such stream"
absent_text absent.Compound = codes "it is a workbook's stream alone, without other streams"

abbrev pub problem_text : Problem → List ℕ
problem_text (problems.Unread reason) = reason_text reason
problem_text problems.Folder = codes "it is a folder"
problem_text problems.Irregular = codes "it is no regular file"
problem_text (problems.Failure failure) = failure_text failure
problem_text (problems.Absent what) = absent_text what
problem_text (problems.Project fault) = documents.fault_text fault
problem_text (problems.Encrypted refusal) = refusal_text refusal
problem_text (problems.Unwritten path reason) = string_bytes path ++ (codes ": " ++ reason_text reason)

-- a line on standard error about a file: tabs, newlines and returns of its name and of the text are escaped
abbrev pub said_line : List ℕ → List ℕ → List ℕ
said_line file text = codes "xls: " ++ (escaped_text (chars file) ++ (codes ": " ++ escaped_text (chars text)))

-- how it went with a file of many, in the line that tells of it
abbrev pub outcome_word : Outcome → List ℕ
outcome_word outcome.Ok = codes "ok"
outcome_word outcome.Refused = codes "refused"
outcome_word outcome.Unread = codes "unread"
outcome_word outcome.Exists = codes "exists"
outcome_word outcome.Failed = codes "failed"
