use Rattle.std.proofs.Common.{◌≡◌, length}
use Rattle.xls_text.specs.declared.encoding.XlsEncoding.{XlsEncoding}
use Rattle.xls_links.specs.Links.{links_in}
use Rattle.xls_links.proofs.links.next_link.Given as goal

abbrev pub invariant-loop-r : goal.invariant-loop-r
invariant-loop-r l = (page : XlsEncoding) → links_in page l.records ≡ links_in page l.initial.records

abbrev pub decreases-loop-r : goal.decreases-loop-r
decreases-loop-r l = length l.records
