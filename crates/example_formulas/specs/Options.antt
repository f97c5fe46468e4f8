-- The options under which a workbook is opened.
use Rattle.std.specs.Prelude.{◌++◌}
use Rattle.xls_formula.specs.Functions.{shipped}
use Rattle.xls_formula.specs.Table.{from_index_72}
use Rattle.xls_open.specs.Opening.{default_options}
use Rattle.xls_open.specs.declared.options.XlsOptions.{XlsOptions}

-- those by default, with the names of all functions
abbrev pub all_functions : XlsOptions
all_functions = record default_options { functions = shipped ++ from_index_72 }
