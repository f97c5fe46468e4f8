-- What is written of a file, by its workbook's stream.
use Rattle.std.proofs.Common.{◌≡◌, ℕ, List, Result, Ok, Err, inl, inr, refl, sym, subst}
use Rattle.std.specs.Result.{IsErrAnd}
use Rattle.std.proofs.KnownBytes.{Keeps-refl}
use Rattle.xls_output.specs.SinkState.{SinkState}
use Rattle.xls_open.specs.declared.options.XlsOptions.{XlsOptions}
use Rattle.xls_container.specs.Files.{Container, OpensContainer, RefusesWorkbook, WorkbookBytes}
use Rattle.xls_container.specs.declared.fault.FileFault.{FileFault}
use Rattle.xls_container.specs.declared.fault.FileFault.TheVariants as file
use Rattle.xls_answers.specs.Answers.{OfFile, OfReadable, OfStream}
use Rattle.xls_answers.specs.Failures.{failure_of_fault}
use Rattle.xls_answers.specs.declared.answer.Answer.{Answer}
use Rattle.xls_answers.specs.declared.answer.Answer.TheVariants as answers
use Rattle.xls_answers.specs.declared.failure.Failure.{Failure}
use Rattle.xls_answers.specs.declared.failure.Failure.TheVariants as failures

-- ---- an opened file that gives no workbook

refused : (answer : Answer) (options : XlsOptions) (bytes : List ℕ) (w : SinkState) (c : Container) (fault : FileFault)
    → OpensContainer bytes c → RefusesWorkbook c fault → OfFile answer options bytes w w (Err (failure_of_fault fault))
refused answer options bytes w c file.Memory opens p = inl (refl, (Keeps-refl w.written, refl))
refused answer options bytes w c (file.Kind k) opens p = (inr (c, opens, p), (Keeps-refl w.written, refl))
refused answer options bytes w c (file.Compound e) opens p = (inr (c, opens, p), (Keeps-refl w.written, refl))
refused answer options bytes w c file.NoWorkbook opens p = (inr (c, opens, p), (Keeps-refl w.written, refl))

pub workbook-refused : (answer : Answer) (options : XlsOptions) (bytes : List ℕ) (w : SinkState) (c : Container) (fault : FileFault)
    (r : Result (Unit {0}) Failure) → IsErrAnd r (λ d. d ≡ failure_of_fault fault) → OpensContainer bytes c → RefusesWorkbook c fault
    → OfFile answer options bytes w w r
workbook-refused answer options bytes w c fault (Ok x) none opens p = absurd none
workbook-refused answer options bytes w c fault (Err d) is opens p =
    subst (λ (f : Failure). OfFile answer options bytes w w (Err f)) (sym is) (refused answer options bytes w c fault opens p)

-- ---- a workbook's stream

-- what is written of a stream is never refused by a fault of a file
no-file-fault : (answer : Answer) (options : XlsOptions) (bytes : List ℕ) (a b : SinkState) (fault : FileFault)
    → OfStream answer options bytes a b (Err (failures.File fault)) → ⊥
no-file-fault (answers.Lines lines form) options bytes a b fault p = p
no-file-fault (answers.Shown form) options bytes a b fault p = p
no-file-fault answers.Exact options bytes a b fault p = p
no-file-fault (answers.Sheet choice table sight) options bytes a b fault p = p
no-file-fault answers.Check options bytes a b fault p = p
no-file-fault (answers.Beside topic form) options bytes a b fault p = p
no-file-fault answers.Remade options bytes a b fault p = p
no-file-fault answers.Bytes options bytes a b fault p = p

pub of-workbook : (answer : Answer) (options : XlsOptions) (whole bytes : List ℕ) (a b : SinkState) (r : Result (Unit {0}) Failure)
    → WorkbookBytes whole bytes → OfReadable answer options bytes a b r → OfFile answer options whole a b r
of-workbook answer options whole bytes a b (Ok x) is p = (bytes, is, p)
of-workbook answer options whole bytes a b (Err (failures.File f)) is p = absurd (no-file-fault answer options bytes a b f p)
of-workbook answer options whole bytes a b (Err failures.Obfuscated) is p = (bytes, is, p)
of-workbook answer options whole bytes a b (Err (failures.Stream e)) is p = (bytes, is, p)
of-workbook answer options whole bytes a b (Err (failures.Missing m)) is p = (bytes, is, p)
of-workbook answer options whole bytes a b (Err (failures.Canonical e)) is p = (bytes, is, p)
of-workbook answer options whole bytes a b (Err (failures.Stopped s)) is p = inr (bytes, is, p)
