-- The lines of a stream with a fault, and of one without, in UTF-8.
use Rattle.std.specs.Prelude.{ℕ, List, [], ◌∷◌, codes}
use Rattle.xls_record.specs.ErrorText.{error_text}
use Rattle.xls_record.specs.declared.error.XlsError.{XlsError}
use Rattle.xls_lay.specs.ErrorText as lay_errors
use Rattle.xls_lay.specs.declared.error.LayError.{LayError}
use Rattle.xls_lines.specs.Lines.{line}

-- the line of a stream without a fault
abbrev pub sound_line : List ℕ
sound_line = line (codes "ok") []

-- the line of an error of this text
abbrev pub error_line : List ℕ → List ℕ
error_line reported = line (codes "error") (reported ∷ [])

-- the line of a list whose canonical stream isn't written
abbrev pub unwritten_line : LayError → List ℕ
unwritten_line e = error_line (lay_errors.error_text e)

-- the line of a refusal
abbrev pub fault_line : XlsError → List ℕ
fault_line e = error_line (error_text e)
