-- Known values of the options, and of what opening never answers.
use Rattle.std.proofs.Common.{◌≡◌, [], ◌∷◌, length, refl, None, Some, codes}
use Rattle.xls_data.specs.declared.regions.HeaderRow.TheVariants.{FirstNonEmptyRow}
use Rattle.xls_record.specs.declared.error.XlsError.TheVariants as errors
use Rattle.xls_formula.specs.Functions.{shipped}
use Rattle.xls_formula.specs.declared.numbers.NumberStyle.TheVariants.{Bits}
use Rattle.xls_open.specs.Workbook.{rules_of}
use Rattle.xls_open.specs.Opening.{default_options, default_rules, IsOfOpening}

-- 256 MiB, 32 Mi cells, and the functions that are shipped
pub known_options : default_options
    ≡ record {
      force_codepage = None;
      header_row = FirstNonEmptyRow;
      max_bytes = 0x1000_0000;
      max_cells = 0x0200_0000;
      functions = shipped;
      summary = None;
      document_summary = None;
    }
known_options = refl

-- 72 of them
pub known_functions : length default_rules.functions ≡ 0x48
known_functions = refl

-- the options that the reading hangs on, and the style of doubles
pub known_rules : rules_of (record default_options { force_codepage = Some 0x04E4; max_bytes = 0x10; max_cells = 0x20; functions = (codes "PI", 0) ∷ [] })
    ≡ record { force_codepage = Some 0x04E4; max_bytes = 0x10; max_cells = 0x20; functions = (codes "PI", 0) ∷ []; numbers = Bits }
known_rules = refl

-- no refusal of a formula, of a format or of a look-up
pub never : (IsOfOpening errors.StackLen → ⊥) × (IsOfOpening (errors.InvalidFormula 0) → ⊥) × (IsOfOpening (errors.IfTab 0) → ⊥) × (IsOfOpening (errors.Etpg 0) → ⊥) × (IsOfOpening (errors.InvalidFormat 0) → ⊥)
never = ((λ h. h), (λ h. h), (λ h. h), (λ h. h), (λ h. h))
