-- What can be asked for of a workbook.
use Rattle.std.specs.Prelude.{◌<◌}
use Rattle.xls_readable.specs.declared.choices.SheetChoice.{SheetChoice}
use Rattle.xls_readable.specs.declared.choices.SheetChoice.TheVariants.{First, Named, Number}

-- sheets are numbered from 1
abbrev pub IsNumbered : SheetChoice → Type 0
IsNumbered First = Unit {0}
IsNumbered (Named name) = Unit {0}
IsNumbered (Number n) = 0 < n
