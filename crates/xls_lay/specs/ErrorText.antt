-- The printed text of a refusal.
use Rattle.std.specs.Prelude.{ℕ, List, ◌++◌, codes}
use Rattle.std.specs.Fmt.{decimal}
use Rattle.xls_lay.specs.declared.error.LayError.{LayError}
use Rattle.xls_lay.specs.declared.error.LayError.TheVariants as errors

-- what a refusal prints
abbrev pub error_text : LayError → List ℕ
error_text (errors.TooLong found) =
    codes "Workbook of " ++ (decimal found ++ codes " bytes is too long")
error_text errors.Memory = codes "Out of memory"
