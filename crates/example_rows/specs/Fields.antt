-- Rows as fields: the header and the printed text of each cell that isn't empty.
use Rattle.std.specs.Prelude.{◌≡◌, ◌<◌, ℕ, List, [], ◌∷◌, map, length, Bool, Option, Some, Result, Ok, String, if◌then◌else◌}
use Rattle.std.specs.Global.{Global}
use Rattle.std.specs.String.{string_bytes}
use Rattle.xls_data.specs.Content.{Content}
use Rattle.xls_rows.specs.Refusals.{Refusal, Gives}
use Rattle.xls_rows.specs.Readers.{text_read, is_empty_cell}
use Rattle.xls_rows.specs.Rows.{Row, all_read}
use Rattle.xls_rows.specs.Laws.{named_values}
use Rattle.xls_rows.specs.declared.error.DeError.{DeError}
use Rattle.example_rows.specs.Entries.{◌>>=◌}
use Rattle.example_rows.specs.declared.fields.Fields.{Fields}

-- a header and a cell are the first that a row gives, and the row afterwards gives the others
pub record IsNextField {T : Type 0} (empty : T → Bool) (old new : Row T) (field : List ℕ × T)
    : Type 0 where
  pub first : named_values empty old.exposed
      ≡ (Some field.0, field.1) ∷ named_values empty new.exposed
  pub named : new.named ≡ old.named
  pub fewer : length new.exposed < length old.exposed

-- a header and the printed text of its cell, or the cell's refusal
abbrev pub field_in : {T : Type 0} → (T → Content) → ℕ × ℕ → Option (List ℕ) × T
    → Result (Option (List ℕ) × List ℕ) Refusal
field_in content place field = do
  text ← text_read place (content field.1)
  Ok (field.0, text)

-- those of a row's cells that aren't empty, or the first refusal
abbrev pub fields_in : {T : Type 0} → (T → Content) → ℕ × ℕ → Row T
    → Result (List (Option (List ℕ) × List ℕ)) Refusal
fields_in content place row =
    all_read (field_in content place)
    (named_values (λ x. is_empty_cell (content x)) row.exposed)

-- a field as the code has it
abbrev pub field_view : String Global × String Global → Option (List ℕ) × List ℕ
field_view field = (Some (string_bytes field.0), string_bytes field.1)

abbrev pub fields_view : Fields → List (Option (List ℕ) × List ℕ)
fields_view fields = map field_view fields.fields.items

-- the answer is those, or their refusal, or out of memory; a row without headers has no fields
abbrev pub ReadsFields : {T : Type 0} → (T → Content) → Row T → Result Fields DeError → Type 0
ReadsFields content row answer =
    Gives fields_view answer (if row.named then fields_in content row.place row else Ok [])
