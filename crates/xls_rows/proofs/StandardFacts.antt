-- Known values of the definitions.
use Rattle.std.proofs.Common.{◌≡◌, ℕ, refl, [], ◌∷◌, pos, true, false}
use Rattle.std.specs.Prelude.{codes, Ok, Err, Some, None}
use Rattle.xls_data.specs.Content.{int, truth, nothing, failure}
use Rattle.xls_dates.specs.declared.numbers.Number.TheVariants.{Bits}
use Rattle.xls_data.specs.declared.errors.CellErrorType.TheVariants.{NA}
use Rattle.xls_rows.specs.Refusals.{cell_error, custom}
use Rattle.xls_rows.specs.Wholes.{not_whole}
use Rattle.xls_rows.specs.Readers.{bool_in, unit_in, is_zero, bool_named}
use Rattle.xls_rows.specs.Rows.{exposed_of}
use Rattle.xls_rows.specs.Columns.{numbers_from}

-- an empty cell is false, the bits of negative zero are zero, 1 is true
pub empty_is_false : bool_in (1, 0) nothing ≡ Ok false
empty_is_false = refl

pub negative_zero : is_zero (Bits 0x8000_0000_0000_0000) ≡ true
negative_zero = refl

pub one_is_true : bool_in (1, 0) (int (pos 1)) ≡ Ok true
one_is_true = refl

-- names of truth values
pub upper_case : bool_named (codes "TRUE") ≡ Some true
upper_case = refl

pub mixed_case : bool_named (codes "tRUE") ≡ None
mixed_case = refl

-- an error cell is refused by its value at the row's position
pub error_cell : unit_in (1, 0) (failure NA) ≡ Err (cell_error NA (1, 0))
error_cell = refl

pub truth_is_no_unit : unit_in (1, 0) (truth true) ≡ Err (custom (codes "Expecting unit, got Bool"))
truth_is_no_unit = refl

pub no_u8 : not_whole (codes "u8") (1, 0) nothing ≡ custom (codes "Expecting u8, got Empty")
no_u8 = refl

-- columns in the order of the indexes
pub second_first : exposed_of {T = ℕ} None (7 ∷ 8 ∷ 9 ∷ []) (2 ∷ 0 ∷ []) ≡ record { column = 2; header = None; value = 9 } ∷ record { column = 0; header = None; value = 7 } ∷ []
second_first = refl

pub three_columns : numbers_from 0 3 ≡ 0 ∷ 1 ∷ 2 ∷ []
three_columns = refl
