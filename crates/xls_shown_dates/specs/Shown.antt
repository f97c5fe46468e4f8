-- For the proofs: the text of a number in digits, or of a text.
use Rattle.std.specs.Prelude.{ℕ, List}
use Rattle.std.specs.Str.{chars}
use Rattle.xls_shown_dates.specs.declared.texts.Shown.{Shown}
use Rattle.xls_shown_dates.specs.declared.texts.Shown.TheVariants.{Number, Text}
use Rattle.xls_shown_dates.specs.Texts.{padded}

abbrev pub shown_text : Shown → List ℕ
shown_text (Number width n) = padded width n
shown_text (Text text) = chars text.now
