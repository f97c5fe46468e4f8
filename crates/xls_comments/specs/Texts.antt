-- The words for comments, and the sentences for what is wrong with a Note.
use Rattle.std.specs.Prelude.{ℕ, List, ◌++◌, codes}
use Rattle.std.specs.Fmt.{decimal}
use Rattle.xls_comments.specs.declared.damage.DamagedRecord.{DamagedRecord}
use Rattle.xls_comments.specs.declared.damage.DamagedRecord.TheVariants.{Note}
use Rattle.xls_comments.specs.declared.damage.Flaw.{Flaw}
use Rattle.xls_comments.specs.declared.damage.Flaw.TheVariants.{Short, NoObject, NoText, ShortText, UnitsEnd, BytesEnd, ContinuesNothing}
use Rattle.xls_comments.specs.declared.items.Visibility.{Visibility}
use Rattle.xls_comments.specs.declared.items.Visibility.TheVariants.{Visible, Hidden}

abbrev pub visibility_text : Visibility → List ℕ
visibility_text Visible = codes "visible"
visibility_text Hidden = codes "hidden"

abbrev pub record_text : DamagedRecord → List ℕ
record_text Note = codes "Note"

abbrev pub flaw_text : Flaw → List ℕ
flaw_text (Short least found) = codes "shorter than " ++ (decimal least ++ (codes " bytes: " ++ decimal found))
flaw_text (NoObject id) = codes "no object has its identifier, " ++ decimal id
flaw_text (NoText id) = codes "its object, " ++ (decimal id ++ codes ", has no text")
flaw_text (ShortText found) = codes "the record of its text is shorter than 12 bytes: " ++ decimal found
flaw_text (UnitsEnd found count) = codes "its text ends after " ++ (decimal found ++ (codes " of " ++ (decimal count ++ codes " units")))
flaw_text (BytesEnd found count) = codes "its text ends after " ++ (decimal found ++ (codes " of " ++ (decimal count ++ codes " bytes")))
flaw_text ContinuesNothing = codes "it continues no comment"
