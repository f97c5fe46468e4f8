use Rattle.std.proofs.Common.{◌≡◌, length}
use Rattle.xls_text.specs.declared.encoding.XlsEncoding.{XlsEncoding}
use Rattle.xls_comments.specs.Biff5.{items_5}
use Rattle.xls_comments.proofs.biff5.next_note.Given as goal

abbrev pub invariant-loop-r : goal.invariant-loop-r
invariant-loop-r l = (page : XlsEncoding) → items_5 page l.records ≡ items_5 page l.initial.records

abbrev pub decreases-loop-r : goal.decreases-loop-r
decreases-loop-r l = length l.records
