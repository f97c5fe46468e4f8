-- What is written of a file that is opened once.
use Rattle.std.proofs.Common.{◌≡◌, ◌⊎◌, ℕ, List, Result, Ok, Err, inl, inr, refl, sym, subst}
use Rattle.std.specs.Result.{IsErrAnd}
use Rattle.std.proofs.KnownBytes.{Keeps-refl}
use Rattle.xls_answers.specs.Failures.{failure_of_fault}
use Rattle.xls_answers.specs.declared.answer.Answer.{Answer}
use Rattle.xls_answers.specs.declared.answer.Answer.TheVariants as answers
use Rattle.xls_answers.specs.declared.failure.Failure.TheVariants as failures
use Rattle.xls_answers.specs.declared.failure.Failure.TheVariants.{Stopped}
use Rattle.xls_container.specs.Files.{Container, HasWorkbook, OpensContainer, RefusesToOpen, RefusesWorkbook, WorkbookBytes}
use Rattle.xls_container.specs.declared.fault.FileFault.{FileFault}
use Rattle.xls_container.specs.declared.fault.FileFault.TheVariants as faults
use Rattle.xls_output.specs.SinkState.{SinkState}
use Rattle.xls_output.specs.declared.stop.Stop.TheVariants.{Memory}
use Rattle.xls_open.specs.declared.options.XlsOptions.{XlsOptions}
use Rattle.xls_tool.specs.declared.job.Reading.{Reading}
use Rattle.xls_tool.specs.Beside.{OfContainer}
use Rattle.xls_tool.specs.Steps.{EndsAnswer, EndsText, RanOut}
use Rattle.xls_tool.specs.Asked.{asked_by}
use Rattle.xls_tool.specs.Unlocking.{IsLocked}
use Rattle.xls_passwords.specs.Opening.{opened}
use Rattle.xls_passwords.specs.declared.opening.Refusal.{Refusal}
use Rattle.xls_tool.specs.Texts.{OfAnswer, OfGiven, OfOpened, OfText, OfWorkbook}
use Rattle.xls_tool.specs.declared.job.Asked.{Asked}
use Rattle.xls_tool.specs.declared.job.Asked.TheVariants.{Workbook, Other}
use Rattle.xls_tool.specs.declared.job.Beside.{Beside}
use Rattle.xls_tool.specs.declared.problem.Problem.{Problem}
use Rattle.xls_tool.specs.declared.problem.Problem.TheVariants as problems
use Rattle.xls_words.specs.declared.request.Command.{Command}

-- ---- a workbook in an opened file

-- what is written of a stream is never refused by a fault of a file
no-file-fault : (answer : Answer) (options : XlsOptions) (stream : List ℕ) (a b : SinkState) (fault : _)
    → OfWorkbook answer options stream a b (Err (problems.Failure (failures.File fault))) → ⊥
no-file-fault (answers.Lines lines form) options stream a b fault p = p
no-file-fault (answers.Shown form) options stream a b fault p = p
no-file-fault answers.Exact options stream a b fault p = p
no-file-fault (answers.Sheet choice table sight) options stream a b fault p = p
no-file-fault answers.Check options stream a b fault p = p
no-file-fault (answers.Beside topic form) options stream a b fault p = p
no-file-fault answers.Remade options stream a b fault p = p
no-file-fault answers.Bytes options stream a b fault p = p

never-of-file : (o : Result (List ℕ) Refusal) (answer : Answer) (options : XlsOptions) (a b : SinkState) (fault : _)
    → OfOpened o answer options a b (Err (problems.Failure (failures.File fault))) → ⊥
never-of-file (Ok plain) answer options a b fault p = no-file-fault answer options plain a b fault p
never-of-file (Err refusal) answer options a b fault (is, same) =
    let none : (let r : Result (Unit {0}) Problem = Err (problems.Failure (failures.File fault)) in r) ≡ Err (problems.Encrypted refusal) = is in cc none

-- what is written of its stream is written of the file
answered : (answer : Answer) (reading : Reading) (file stream : List ℕ) (a b : SinkState) (r : Result (Unit {0}) Problem)
    → WorkbookBytes file stream → OfOpened (opened stream reading.passwords) answer reading.options a b r → OfAnswer answer reading file a b r
answered answer reading file stream a b (Ok x) is p = (stream, is, p)
answered answer reading file stream a b (Err (problems.Failure (failures.File f))) is p =
    absurd (never-of-file (opened stream reading.passwords) answer reading.options a b f p)
answered answer reading file stream a b (Err (problems.Failure failures.Obfuscated)) is p = (stream, is, p)
answered answer reading file stream a b (Err (problems.Failure (failures.Stream e))) is p = (stream, is, p)
answered answer reading file stream a b (Err (problems.Failure (failures.Missing m))) is p = (stream, is, p)
answered answer reading file stream a b (Err (problems.Failure (failures.Canonical e))) is p = (stream, is, p)
answered answer reading file stream a b (Err (problems.Failure (failures.Stopped s))) is p = inr (stream, is, p)
answered answer reading file stream a b (Err (problems.Unread reason)) is p = (stream, is, p)
answered answer reading file stream a b (Err problems.Folder) is p = (stream, is, p)
answered answer reading file stream a b (Err problems.Irregular) is p = (stream, is, p)
answered answer reading file stream a b (Err (problems.Absent what)) is p = (stream, is, p)
answered answer reading file stream a b (Err (problems.Project fault)) is p = (stream, is, p)
answered answer reading file stream a b (Err (problems.Encrypted refusal)) is p = (stream, is, p)
answered answer reading file stream a b (Err (problems.Unwritten path reason)) is p = (stream, is, p)

pub of-stream : (answer : Answer) (reading : Reading) (file stream plain : List ℕ) (a b : SinkState) (c : Container) (r : Result (Unit {0}) Problem)
    → OpensContainer file c → HasWorkbook c stream → opened stream reading.passwords ≡ Ok plain → OfWorkbook answer reading.options plain a b r
    → EndsAnswer answer reading file a b r
of-stream answer reading file stream plain a b c r opens has is p =
    inr (answered answer reading file stream a b r (record { container = c; is_opened = opens; has = has })
    (subst (λ o. OfOpened o answer reading.options a b r) (sym is) p))

-- a problem that is passed on
pub passed : (answer : Answer) (reading : Reading) (file : List ℕ) (a b : SinkState) (p : Problem) (r : Result (Unit {0}) Problem)
    → IsErrAnd r (λ d. d ≡ p) → EndsAnswer answer reading file a b (Err p) → EndsAnswer answer reading file a b r
passed answer reading file a b p (Ok x) none ends = absurd none
passed answer reading file a b p (Err d) is ends = subst (λ (q : Problem). EndsAnswer answer reading file a b (Err q)) (sym is) ends

-- it gives no workbook
refused-workbook : (answer : Answer) (reading : Reading) (file : List ℕ) (s : SinkState) (c : Container) (fault : FileFault)
    → OpensContainer file c → RefusesWorkbook c fault → OfAnswer answer reading file s s (Err (problems.Failure (failure_of_fault fault)))
refused-workbook answer reading file s c faults.Memory opens p = inl (refl, (Keeps-refl s.written, refl))
refused-workbook answer reading file s c (faults.Kind k) opens p = (inr (c, opens, p), (Keeps-refl s.written, refl))
refused-workbook answer reading file s c (faults.Compound e) opens p = (inr (c, opens, p), (Keeps-refl s.written, refl))
refused-workbook answer reading file s c faults.NoWorkbook opens p = (inr (c, opens, p), (Keeps-refl s.written, refl))

pub no-workbook : (answer : Answer) (reading : Reading) (file : List ℕ) (s : SinkState) (c : Container) (fault : FileFault)
    (r : Result (Unit {0}) Problem) → IsErrAnd r (λ d. d ≡ problems.Failure (failure_of_fault fault))
    → OpensContainer file c → RefusesWorkbook c fault → EndsAnswer answer reading file s s r
no-workbook answer reading file s c fault r is opens refuses =
    passed answer reading file s s (problems.Failure (failure_of_fault fault)) r is
    (inr (refused-workbook answer reading file s c fault opens refuses))

-- memory ran out
pub ran-out : (answer : Answer) (reading : Reading) (file : List ℕ) (a b : SinkState) (r : Result (Unit {0}) Problem)
    → IsErrAnd r (λ d. d ≡ problems.Failure (Stopped Memory)) → EndsAnswer answer reading file a b r
ran-out answer reading file a b r is = passed answer reading file a b (problems.Failure (Stopped Memory)) r is (inl refl)

-- it isn't made plain
locked-stream : (answer : Answer) (reading : Reading) (file stream : List ℕ) (s : SinkState) (c : Container) (p : Problem)
    → OpensContainer file c → HasWorkbook c stream → IsLocked stream reading.passwords p → EndsAnswer answer reading file s s (Err p)
locked-stream answer reading file stream s c p opens has (inl memory) =
    subst (λ (q : Problem). EndsAnswer answer reading file s s (Err q)) (sym memory) (inl refl)
locked-stream answer reading file stream s c p opens has (inr (refusal, is, says)) =
    subst (λ (q : Problem). EndsAnswer answer reading file s s (Err q)) (sym says)
    (inr (answered answer reading file stream s s (Err (problems.Encrypted refusal)) (record { container = c; is_opened = opens; has = has })
    (subst (λ o. OfOpened o answer reading.options s s (Err (problems.Encrypted refusal))) (sym is) (refl, (Keeps-refl s.written, refl)))))

pub locked : (answer : Answer) (reading : Reading) (file stream : List ℕ) (s : SinkState) (c : Container) (p : Problem) (r : Result (Unit {0}) Problem)
    → IsErrAnd r (λ d. d ≡ p) → OpensContainer file c → HasWorkbook c stream → IsLocked stream reading.passwords p → EndsAnswer answer reading file s s r
locked answer reading file stream s c p r is opens has why = passed answer reading file s s p r is (locked-stream answer reading file stream s c p opens has why)

-- ---- a command's text

-- a command that writes of the workbook
pub by-answer : (answer : Answer) (command : Command) (reading : Reading) (file : List ℕ) (a b : SinkState) (r : Result (Unit {0}) Problem)
    → asked_by command ≡ Workbook answer → EndsAnswer answer reading file a b r → EndsText command reading file a b r
by-answer answer command reading file a b r is ends =
    subst (λ asked. RanOut r ⊎ OfGiven asked reading file a b r) (sym is) ends

-- one that writes of what stands beside it
pub by-beside : (beside : Beside) (command : Command) (reading : Reading) (file : List ℕ) (a b : SinkState) (c : Container) (r : Result (Unit {0}) Problem)
    → asked_by command ≡ Other beside → OpensContainer file c → OfContainer beside c a b r → EndsText command reading file a b r
by-beside beside command reading file a b c r is opens p =
    inr (subst (λ asked. OfGiven asked reading file a b r) (sym is) (inl (c, opens, p)))

-- a file isn't opened
refused : (asked : Asked) (reading : Reading) (file : List ℕ) (s : SinkState) (fault : FileFault)
    → RefusesToOpen file fault → OfGiven asked reading file s s (Err (problems.Failure (failure_of_fault fault)))
refused (Workbook answer) reading file s faults.Memory refuses = inl (refl, (Keeps-refl s.written, refl))
refused (Workbook answer) reading file s (faults.Kind k) refuses = (inl refuses, (Keeps-refl s.written, refl))
refused (Workbook answer) reading file s (faults.Compound e) refuses = (inl refuses, (Keeps-refl s.written, refl))
refused (Workbook answer) reading file s faults.NoWorkbook refuses = absurd refuses
refused (Other beside) reading file s fault refuses = inr (fault, refuses, (refl, (Keeps-refl s.written, refl)))

pub not-opened : (command : Command) (reading : Reading) (file : List ℕ) (s : SinkState) (fault : FileFault) (r : Result (Unit {0}) Problem)
    → IsErrAnd r (λ d. d ≡ problems.Failure (failure_of_fault fault)) → RefusesToOpen file fault → EndsText command reading file s s r
not-opened command reading file s fault (Ok x) none refuses = absurd none
not-opened command reading file s fault (Err d) is refuses =
    inr (subst (λ (p : Problem). OfText command reading file s s (Err p)) (sym is) (refused (asked_by command) reading file s fault refuses))
