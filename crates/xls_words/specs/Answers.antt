-- What the words of the command line are answered by where they ask for no work.
use Rattle.std.specs.Prelude.{◌≡◌, ◌⊎◌}
use Rattle.clap.specs.declared.error.kind.ErrorKind.{ErrorKind}
use Rattle.clap.specs.declared.error.kind.ErrorKind.TheVariants.{DisplayHelp, DisplayVersion}
use Rattle.xls_words.specs.declared.displayed.Displayed.{Displayed}
use Rattle.xls_words.specs.declared.displayed.Displayed.TheVariants.{Help, Mistake, Memory}

-- help or the version
abbrev pub IsHelp : ErrorKind → Type 0
IsHelp kind = (kind ≡ DisplayHelp) ⊎ (kind ≡ DisplayVersion)

-- help and the version are asked for, anything else is a mistake, unless memory ran out
abbrev pub IsAnswer : ErrorKind → Displayed → Type 0
IsAnswer kind (Help text) = IsHelp kind
IsAnswer kind (Mistake text) = IsHelp kind → ⊥
IsAnswer kind Memory = Unit {0}
