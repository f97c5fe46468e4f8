-- Refusals, and what is written at them.
use Rattle.std.proofs.Common.{◌≡◌, ◌⊎◌, ℕ, List, Result, Ok, Err, inl, inr, refl, sym, subst}
use Rattle.std.specs.Result.{IsErrAnd}
use Rattle.std.proofs.KnownBytes.{Keeps-refl}
use Rattle.xls_record.specs.declared.error.XlsError.{XlsError}
use Rattle.xls_record.specs.declared.error.XlsError.TheVariants as errors
use Rattle.xls_lay.specs.Reading.{ReadsList}
use Rattle.xls_output.specs.SinkState.{SinkState}
use Rattle.xls_report.specs.Endings.{IsUntouched}
use Rattle.xls_answers.specs.Answers.{OfRemade}
use Rattle.xls_answers.specs.Failures.{failure_of_stream}
use Rattle.xls_answers.specs.declared.failure.Failure.{Failure}
use Rattle.xls_answers.specs.declared.failure.Failure.TheVariants as failures

untouched : (w : SinkState) → IsUntouched w w
untouched w = (Keeps-refl w.written, refl)

-- a refusal of a stream is its fault, unless memory ran out
stream-or-memory : (e : XlsError) → (failure_of_stream e ≡ failures.Stream e) ⊎ (e ≡ errors.Memory)
stream-or-memory errors.Memory = inr refl
stream-or-memory errors.Io = inl refl
stream-or-memory (errors.TooLarge n) = inl refl
stream-or-memory (errors.TooManyCells n) = inl refl
stream-or-memory (errors.Cfb c) = inl refl
stream-or-memory errors.Password = inl refl
stream-or-memory (errors.Len e f t) = inl refl
stream-or-memory (errors.Unrecognized t v) = inl refl
stream-or-memory (errors.EoStream p) = inl refl
stream-or-memory errors.ContinueRecordTooShort = inl refl
stream-or-memory errors.StackLen = inl refl
stream-or-memory (errors.InvalidFormula n) = inl refl
stream-or-memory (errors.IfTab n) = inl refl
stream-or-memory (errors.Etpg n) = inl refl
stream-or-memory (errors.InvalidFormat n) = inl refl
stream-or-memory (errors.WorksheetNotFound s) = inl refl

refused-by-memory : (bytes : List ℕ) (w : SinkState) (e : XlsError) → e ≡ errors.Memory
    → OfRemade bytes w w (Err (failure_of_stream e))
refused-by-memory bytes w e is =
    subst (λ (x : XlsError). OfRemade bytes w w (Err (failure_of_stream x))) (sym is) (inl (refl, untouched w))

refused : (bytes : List ℕ) (w : SinkState) (e : XlsError) → (failure_of_stream e ≡ failures.Stream e) ⊎ (e ≡ errors.Memory)
    → ReadsList bytes (Err e) → OfRemade bytes w w (Err (failure_of_stream e))
refused bytes w e (inl is) (inl first) =
    subst (λ (d : Failure). OfRemade bytes w w (Err d)) (sym is) (inr first, untouched w)
refused bytes w e (inl is) (inr (memory, faultless)) = refused-by-memory bytes w e memory
refused bytes w e (inr memory) p = refused-by-memory bytes w e memory

-- the list of a stream isn't read
pub list-refused : (bytes : List ℕ) (w : SinkState) (e : XlsError) (r : Result (Unit {0}) Failure)
    → IsErrAnd r (λ d. d ≡ failure_of_stream e) → ReadsList bytes (Err e) → OfRemade bytes w w r
list-refused bytes w e (Ok x) none p = absurd none
list-refused bytes w e (Err d) is p =
    subst (λ (f : Failure). OfRemade bytes w w (Err f)) (sym is) (refused bytes w e (stream-or-memory e) p)
