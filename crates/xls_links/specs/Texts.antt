-- The words for links, and the sentences for what is wrong with an HLink.
use Rattle.std.specs.Prelude.{ℕ, ◌-◌, List, ◌++◌, codes, false, length, replicate}
use Rattle.std.specs.Fmt.{digits}
use Rattle.xls_links.specs.declared.damage.DamagedRecord.{DamagedRecord}
use Rattle.xls_links.specs.declared.damage.DamagedRecord.TheVariants.{HLink}
use Rattle.xls_links.specs.declared.damage.Flaw.{Flaw}
use Rattle.xls_links.specs.declared.damage.Flaw.TheVariants.{EndsIn, UnknownKind}
use Rattle.xls_links.specs.declared.damage.Part.{Part}
use Rattle.xls_links.specs.declared.damage.Part.TheVariants as parts
use Rattle.xls_links.specs.declared.items.LinkKind.{LinkKind}
use Rattle.xls_links.specs.declared.items.LinkKind.TheVariants as kinds

-- what a link leads to
abbrev pub kind_text : LinkKind → List ℕ
kind_text kinds.Url = codes "url"
kind_text kinds.File = codes "file"
kind_text kinds.Unc = codes "unc"
kind_text kinds.Place = codes "place"

abbrev pub record_text : DamagedRecord → List ℕ
record_text HLink = codes "HLink"

-- a part, as a sentence has it
abbrev pub part_text : Part → List ℕ
part_text parts.Head = codes "head"
part_text parts.Shown = codes "shown text"
part_text parts.Frame = codes "frame"
part_text parts.Target = codes "target"
part_text parts.Place = codes "place"

-- a number in lower-case hexadecimal, with zeros before it up to sixteen digits
unfoldable pub sixteen_digits : ℕ → List ℕ
sixteen_digits n = replicate (16 - length (digits 16 false n)) 48 ++ digits 16 false n

abbrev pub flaw_text : Flaw → List ℕ
flaw_text (EndsIn part) = codes "it ends in its " ++ part_text part
flaw_text (UnknownKind first second) =
    codes "its target is of a kind that is not known: " ++ (sixteen_digits first ++ sixteen_digits second)
