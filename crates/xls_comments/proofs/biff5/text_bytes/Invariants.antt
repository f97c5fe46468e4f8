use Rattle.std.proofs.Common.{◌≡◌, ◌++◌, length}
use Rattle.xls_parts.specs.PartRecords.{placed_of}
use Rattle.xls_comments.specs.Biff5.{bytes_behind, rest_behind, notes_5}
use Rattle.xls_comments.specs.Fields.{end_of}
use Rattle.xls_text.specs.declared.encoding.XlsEncoding.{XlsEncoding}
use Rattle.xls_comments.proofs.biff5.text_bytes.Given as goal

abbrev pub invariant-loop-next : goal.invariant-loop-next
invariant-loop-next l =
    (l.bytes.items ++ bytes_behind (record { place = end_of (placed_of l.before); missing = l.missing }) l.records
    ≡ l.initial.bytes.items ++ bytes_behind (rest_behind (placed_of l.r)) l.initial.records)
    × ((page : XlsEncoding) → notes_5 page (record { place = end_of (placed_of l.before); missing = l.missing }) l.records
    ≡ notes_5 page (rest_behind (placed_of l.r)) l.initial.records)

abbrev pub decreases-loop-next : goal.decreases-loop-next
decreases-loop-next l = length l.records
