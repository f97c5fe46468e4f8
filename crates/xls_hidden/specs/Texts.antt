-- The words for what is hidden, and the sentences for what is wrong with a record.
use Rattle.std.specs.Prelude.{ℕ, List, ◌++◌, codes}
use Rattle.std.specs.Fmt.{decimal}
use Rattle.xls_hidden.specs.declared.damage.DamagedRecord.{DamagedRecord}
use Rattle.xls_hidden.specs.declared.damage.DamagedRecord.TheVariants as names
use Rattle.xls_hidden.specs.declared.damage.Flaw.{Flaw}
use Rattle.xls_hidden.specs.declared.damage.Flaw.TheVariants.{Short, PastLastRow}
use Rattle.xls_hidden.specs.declared.lines.Why.{Why}
use Rattle.xls_hidden.specs.declared.lines.Why.TheVariants.{Hidden, Filtered, Flat}

abbrev pub why_text : Why → List ℕ
why_text Hidden = codes "hidden"
why_text Filtered = codes "filtered"
why_text Flat = codes "flat"

abbrev pub record_text : DamagedRecord → List ℕ
record_text names.Row = codes "Row"
record_text names.ColInfo = codes "ColInfo"
record_text names.DefaultRowHeight = codes "DefaultRowHeight"

abbrev pub flaw_text : Flaw → List ℕ
flaw_text (Short least found) = codes "shorter than " ++ (decimal least ++ (codes " bytes: " ++ decimal found))
flaw_text PastLastRow = codes "it is past the last row"
