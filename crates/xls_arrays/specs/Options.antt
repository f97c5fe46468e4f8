-- How a stream is read.
use Rattle.std.specs.Prelude.{ℕ, ◌==◌, ◌++◌, if◌then◌else◌, Option, Some, None}
use Rattle.xls_formula.specs.Functions.{shipped}
use Rattle.xls_formula.specs.Table.{from_index_72}
use Rattle.xls_open.specs.Opening.{default_options}
use Rattle.xls_open.specs.declared.options.XlsOptions.{XlsOptions}
use Rattle.xls_arrays.specs.declared.options.Options.{Options}

-- a limit that was given, or, for 0, the one by default
abbrev pub limit_or : ℕ → ℕ → ℕ
limit_or input default = if input == 0 then default else input

abbrev pub forced_page_of : ℕ → Option ℕ
forced_page_of input = if input == 0 then None else Some input

-- how many bytes a stream may have
abbrev pub max_bytes_in : Options → ℕ
max_bytes_in input = limit_or input.max_bytes default_options.max_bytes

-- the options of the reader
abbrev pub options_by : Options → XlsOptions
options_by input =
    record default_options {
      force_codepage = forced_page_of input.code_page;
      max_bytes = max_bytes_in input;
      max_cells = limit_or input.max_cells default_options.max_cells;
      functions = if input.all_functions == 0 then shipped else shipped ++ from_index_72;
    }
