-- What an answer says of a text that was appended.
use Rattle.std.specs.Prelude.{◌≡◌, ◌⊎◌, ℕ, List, ◌++◌, Result, Ok, Err}
use Rattle.std.specs.Borrow.{Bor}
use Rattle.xls_record.specs.declared.error.XlsError.TheVariants as errors
use Rattle.xls_shown_ptg.specs.Reading.{gives}
use Rattle.xls_shown_ptg.specs.declared.fault.Fault.{Fault}
use Rattle.xls_shown_ptg.specs.declared.fault.Fault.TheVariants as faults

-- memory ran out, or the definition refuses so
abbrev pub Refuses : {Y : Type 0} → Fault → Result Y Fault → Type 0
Refuses e input = (e ≡ faults.Xls errors.Memory) ⊎ (input ≡ Err e)

-- the text that a definition gives, behind another, and what it leaves
abbrev pub behind : List ℕ → Result (List ℕ × List ℕ) Fault → Result (List ℕ × List ℕ) Fault
behind old input = gives {Y = List ℕ × List ℕ} (λ x. (old ++ x.0, x.1)) input

-- the text is the old one with what the definition gives behind it, and what the definition leaves is left; or the
-- definition refuses so, unless memory ran out
abbrev pub Appends : List ℕ → List ℕ → Result (Bor (List ℕ)) Fault → Result (List ℕ × List ℕ) Fault → Type 0
Appends old new (Ok left) input = behind old input ≡ Ok (new, left.now)
Appends old new (Err e) input = Refuses e input
