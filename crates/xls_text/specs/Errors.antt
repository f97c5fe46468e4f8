-- The printed text of a refused code page.
use Rattle.std.specs.Prelude.{ℕ, true, List, ◌++◌, codes}
use Rattle.std.specs.Fmt.{digits}
use Rattle.xls_text.specs.declared.error.CfbError.{CfbError}
use Rattle.xls_text.specs.declared.error.CfbError.TheVariants.{CodePageNotFound}

-- a number in upper hexadecimal, without leading zeros
abbrev pub upper_hex : ℕ → List ℕ
upper_hex n = digits 16 true n

-- `Codepage `, the page in upper hexadecimal, ` not found`
abbrev pub error_text : CfbError → List ℕ
error_text (CodePageNotFound page) = codes "Codepage " ++ (upper_hex page ++ codes " not found")
