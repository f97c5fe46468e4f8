-- What a bounded read answers.
use Rattle.std.specs.Prelude.{◌≡◌, ◌⊎◌, ℕ, ◌<◌, length, IfSome, Result, MatchResult}
use Rattle.xls_record.specs.declared.error.XlsError.{XlsError}
use Rattle.xls_record.specs.declared.error.XlsError.TheVariants as errors
use Rattle.xls_output.specs.Causes.{Rose}
use Rattle.xls_record.specs.SourceState.{SourceState}

-- why a bounded read is refused, by the states of the source before and after it
abbrev pub ReadCause : ℕ → SourceState → SourceState → XlsError → Type 0
ReadCause limit was now errors.Io = Rose was.faults now.faults
ReadCause limit was now errors.Memory = Unit {0}
ReadCause limit was now (errors.TooLarge n) =
    (n ≡ limit) × IfSome was.left (λ bytes. limit < length bytes)
ReadCause limit was now e = ⊥

-- a refusal that a bounded read may answer
abbrev pub IsOfRead : ℕ → XlsError → Type 0
IsOfRead limit errors.Io = Unit {0}
IsOfRead limit errors.Memory = Unit {0}
IsOfRead limit (errors.TooLarge n) = n ≡ limit
IsOfRead limit e = ⊥

-- what is answered after a bounded read: another answer than its refusals comes only at the end of the source
abbrev pub AnswersAtEnd : {T : Type 0} → ℕ → Type 0 → Result T XlsError → Type 0
AnswersAtEnd limit ended result = MatchResult result (λ _. ended) (λ e. IsOfRead limit e ⊎ ended)
