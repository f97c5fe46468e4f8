-- For the proofs: what one step over the records says.
use Rattle.std.specs.Prelude.{◌≡◌, List, [], ◌∷◌, Option, Some, None}
use Rattle.xls_text.specs.declared.encoding.XlsEncoding.{XlsEncoding}
use Rattle.xls_parts.specs.PartRecords.{Placed}
use Rattle.xls_strings.specs.Texts.{text_of}
use Rattle.xls_links.specs.declared.monikers.Target.{Target as Given}
use Rattle.xls_links.specs.Monikers.{Target}
use Rattle.xls_links.specs.declared.links.Parts.{Parts as GivenParts}
use Rattle.xls_links.specs.Links.{Parts, parts_of, link_of, links_in}

-- a target as the code has it
abbrev pub target_of : Given → Target
target_of t = record { kind = t.kind; text = text_of t.text }

abbrev pub parts_given : GivenParts → Parts
parts_given p = record { shown = text_of p.shown; target = target_of p.target; place = text_of p.place }

-- the first HLink of some records was taken, with what stands before it
abbrev pub NextLink : List Placed → Option Placed → List Placed → Type 0
NextLink before None after = ((page : XlsEncoding) → links_in page before ≡ []) × (after ≡ [])
NextLink before (Some r) after = (page : XlsEncoding) → links_in page before ≡ link_of r after (parts_of page r.body) ∷ links_in page after
