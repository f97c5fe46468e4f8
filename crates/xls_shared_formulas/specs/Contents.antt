-- What a ShrFmla, Array or Table record holds, by the bytes of its body with those of its Continue records.
use Rattle.std.specs.Prelude.{ℕ, ◌+◌, ◌/◌, ◌%◌, List, take, drop, length, Bool, nat_lt, ◌==◌, if◌then◌else◌, Some, None, Result, Ok, Err}
use Rattle.xls_stream.specs.declared.part.Part.{Part}
use Rattle.xls_stream.specs.declared.part.Part.TheVariants as parts
use Rattle.xls_record.specs.declared.error.XlsError.TheVariants as errors
use Rattle.xls_ptg.specs.Fields.{word_at}
use Rattle.xls_shown_ptg.specs.declared.fault.Fault.{Fault}
use Rattle.xls_shown_ptg.specs.declared.fault.Fault.TheVariants as faults
use Rattle.xls_shown_ptg.specs.Reading.{gives}
use Rattle.xls_shared_formulas.specs.declared.contents.Contents.{Contents}
use Rattle.xls_shared_formulas.specs.declared.contents.Contents.TheVariants as held
use Rattle.xls_shared_formulas.specs.declared.contents.FormulaBytes.{FormulaBytes}
use Rattle.xls_shared_formulas.specs.declared.contents.TableInput.{TableInput}
use Rattle.xls_shared_formulas.specs.declared.contents.TableInput.TheVariants.{Cell, Gone}
use Rattle.xls_shared_formulas.specs.declared.contents.TableInputs.{TableInputs}
use Rattle.xls_shared_formulas.specs.declared.fields.FormulaKind.{FormulaKind}
use Rattle.xls_shared_formulas.specs.declared.fields.FormulaKind.TheVariants.{Shared, Array, Table}
use Rattle.xls_shared_formulas.specs.Fields.{least_size}

-- the tokens and the extra bytes of a formula, or the inputs of a table
pub data Content : Type 0 where
  formula : (tokens extra : List ℕ) → Content
  table : (inputs : TableInputs) → Content

-- a part of a record that is too short
abbrev pub short : Part → ℕ → ℕ → Fault
short part expected found = faults.Xls (errors.Len expected found part)

-- the tokens, so many bytes, and the extra bytes behind them, up to the end
abbrev pub tokens_in : Part → ℕ → List ℕ → Result (List ℕ × List ℕ) Fault
tokens_in part size bytes =
    if nat_lt (length bytes) size then Err (short part size (length bytes)) else Ok (take size bytes, drop size bytes)

-- as many as the two bytes before them say
abbrev pub formula_at : ℕ → List ℕ → Result (List ℕ × List ℕ) Fault
formula_at place body = tokens_in parts.Rgce (word_at place body) (drop (place + 2) body)

-- whether the bit of this mask, a power of two, is set
abbrev pub has_bit : ℕ → ℕ → Bool
has_bit mask bits = bits / mask % 2 == 1

-- an input is the cell whose row and column stand at a place, or gone
abbrev pub input_at : ℕ → Bool → List ℕ → TableInput
input_at place is_gone body = if is_gone then Gone else Cell (record { row = word_at place body; column = word_at (place + 2) body })

-- Table: flags at 6. 08 (fTbl2): two inputs, for rows and for columns; else 04 (fRw): the one is for rows. 10 and 20
-- (fDeleted1, fDeleted2): the first and the second are gone
abbrev pub inputs_by : ℕ → List ℕ → TableInputs
inputs_by flags body =
    if has_bit 0x08 flags
    then record { row = Some (input_at 0x08 (has_bit 0x10 flags) body); column = Some (input_at 0x0C (has_bit 0x20 flags) body) }
    else if has_bit 0x04 flags then record { row = Some (input_at 0x08 (has_bit 0x10 flags) body); column = None }
    else record { row = None; column = Some (input_at 0x08 (has_bit 0x10 flags) body) }

abbrev pub inputs_at : List ℕ → TableInputs
inputs_at body = inputs_by (word_at 6 body) body

-- ShrFmla has its count of bytes (cce) at 8, and Array at 0C
abbrev pub contents_by : FormulaKind → List ℕ → Result Content Fault
contents_by Shared body = gives (λ x. formula x.0 x.1) (formula_at 0x08 body)
contents_by Array body = gives (λ x. formula x.0 x.1) (formula_at 0x0C body)
contents_by Table body = Ok (table (inputs_at body))

abbrev pub contents_of : FormulaKind → List ℕ → Result Content Fault
contents_of kind body =
    if nat_lt (length body) (least_size kind) then Err (short parts.Rgce (least_size kind) (length body)) else contents_by kind body

-- ---- as the code holds them

abbrev pub bytes_view : FormulaBytes → List ℕ × List ℕ
bytes_view b = (b.tokens.now, b.extra.now)

abbrev pub contents_view : Contents → Content
contents_view (held.Formula b) = formula b.tokens.now b.extra.now
contents_view (held.Table inputs) = table inputs
