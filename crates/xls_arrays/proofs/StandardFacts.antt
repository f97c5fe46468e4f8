-- Values that IEEE 754, BIFF and the header give, so that a wrong rule in the specs does not check.
use Rattle.std.proofs.Common.{◌≡◌, ◌∷◌, [], ◌++◌, List, map, true, false, refl, pos, codes}
use Rattle.xls_data.specs.Content as content
use Rattle.xls_dates.specs.declared.numbers.Number.TheVariants.{Bits}
use Rattle.xls_dates.specs.declared.dates.ExcelDateTimeType.TheVariants.{DateTime, TimeDelta}
use Rattle.xls_data.specs.declared.errors.CellErrorType.TheVariants as failures
use Rattle.xls_data.specs.declared.sheets.SheetType.TheVariants as sheets
use Rattle.xls_data.specs.declared.sheets.SheetVisible.TheVariants as visible
use Rattle.xls_arrays.specs.Arrays.{Reported, arrays_of, sheet_kind_number, laid, visibility_number}
use Rattle.xls_arrays.specs.Options.{max_bytes_in, options_by}
use Rattle.xls_arrays.specs.Values.{error_code, content_kind}
use Rattle.xls_arrays.specs.declared.options.Options.{Options}

-- ---- cells

-- [MS-XLS] BErr
pub known_errors : map error_code (failures.Null ∷ failures.Div0 ∷ failures.Value ∷ failures.Ref ∷ failures.Name ∷ failures.Num
    ∷ failures.NA ∷ failures.GettingData ∷ [])
    ≡ 0x00 ∷ 0x07 ∷ 0x0F ∷ 0x17 ∷ 0x1D ∷ 0x24 ∷ 0x2A ∷ 0x2B ∷ []
known_errors = refl

pub known_kinds : map content_kind (content.nothing ∷ content.int (pos 1) ∷ content.float (Bits 0)
    ∷ content.date (record { number = Bits 0; kind = DateTime; is_1904 = false })
    ∷ content.date (record { number = Bits 0; kind = TimeDelta; is_1904 = false })
    ∷ content.truth true ∷ content.failure failures.NA ∷ content.text [] ∷ content.iso_date [] ∷ content.iso_duration [] ∷ [])
    ≡ 0x00 ∷ 0x09 ∷ 0x01 ∷ 0x02 ∷ 0x03 ∷ 0x04 ∷ 0x05 ∷ 0x06 ∷ 0x07 ∷ 0x08 ∷ []
known_kinds = refl

pub known_sheets : map sheet_kind_number (sheets.WorkSheet ∷ sheets.DialogSheet ∷ sheets.MacroSheet ∷ sheets.ChartSheet ∷ sheets.Vba ∷ [])
    ≡ 0x00 ∷ 0x01 ∷ 0x02 ∷ 0x03 ∷ 0x04 ∷ []
known_sheets = refl

pub known_visible : map visibility_number (visible.Visible ∷ visible.Hidden ∷ visible.VeryHidden ∷ []) ≡ 0x00 ∷ 0x01 ∷ 0x02 ∷ []
known_visible = refl

-- ---- arrays

-- two sheets: the first has `é` in A1, 3 in B1, `é` again in A2, the formula `A1` in A2 and the region A1:B1; the second
-- has `z` in A1. The name `N` means `A!1`
abbrev two_sheets : List Reported
two_sheets = (
  record { name = codes "A"; typ = sheets.WorkSheet; visible = visible.Visible },
  record {
    cells = ((0, 0), content.text (0xE9 ∷ [])) ∷ ((0, 1), content.int (pos 3)) ∷ ((1, 0), content.text (0xE9 ∷ [])) ∷ [];
    formulas = ((1, 0), codes "A1") ∷ [];
    merges = record { start = (0, 0); end = (0, 1) } ∷ [];
  },
)
    ∷ (
      record { name = codes "B"; typ = sheets.ChartSheet; visible = visible.Hidden },
      record {
        cells = ((0, 0), content.text (codes "z")) ∷ [];
        formulas = [];
        merges = [];
      },
    )
    ∷ []

pub known_arrays : arrays_of ((codes "N", codes "A!1") ∷ []) two_sheets
    ≡ record {
      sheets = record {
        name = record { offset = 4; length = 1 };
        first_cell = 0;
        cells = 3;
        first_formula = 0;
        formulas = 1;
        first_region = 0;
        regions = 1;
        kind = 0;
        visibility = 0;
      }
          ∷ record {
            name = record { offset = 11; length = 1 };
            first_cell = 3;
            cells = 1;
            first_formula = 1;
            formulas = 0;
            first_region = 1;
            regions = 0;
            kind = 3;
            visibility = 1;
          }
          ∷ [];
      names = record { name = record { offset = 0; length = 1 }; formula = record { offset = 1; length = 3 } } ∷ [];
      cells = record { row = 0; column = 0; kind = 6; form = 0; value = 5; length = 2 }
          ∷ record { row = 0; column = 1; kind = 9; form = 1; value = 0x4008_0000_0000_0000; length = 0 }
          ∷ record { row = 1; column = 0; kind = 6; form = 0; value = 7; length = 2 }
          ∷ record { row = 0; column = 0; kind = 6; form = 0; value = 12; length = 1 }
          ∷ [];
      formulas = record { row = 1; column = 0; text = record { offset = 9; length = 2 } } ∷ [];
      regions = record { first_row = 0; first_column = 0; last_row = 0; last_column = 1 } ∷ [];
      texts = codes "NA!1A" ++ (0xC3 ∷ 0xA9 ∷ 0xC3 ∷ 0xA9 ∷ codes "A1Bz");
    }
unfolding laid lib.Utf8.encode lib.Ieee.to_bits lib.Ieee.of_int
known_arrays = refl

-- ---- options

abbrev zeros : Options
zeros = record { max_bytes = 0; max_cells = 0; sheet = 0; which = 0; code_page = 0; all_functions = 0 }

-- 268,435,456 bytes and 33,554,432 cells
pub known_limits : max_bytes_in zeros ∷ (options_by zeros).max_bytes ∷ (options_by zeros).max_cells ∷ []
    ≡ 0x1000_0000 ∷ 0x1000_0000 ∷ 0x0200_0000 ∷ []
known_limits = refl
