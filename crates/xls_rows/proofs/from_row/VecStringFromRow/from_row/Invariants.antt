use Rattle.std.proofs.Common.{◌≡◌, length, map}
use Rattle.std.specs.String.{string_bytes}
use Rattle.xls_rows.specs.Readers.{text_read}
use Rattle.xls_rows.specs.Rows.{all_read, contents_of}
use Rattle.xls_rows.proofs.ReadLemmas.{following}
use Rattle.xls_rows.proofs.from_row.VecStringFromRow.from_row.Given as goal

abbrev pub invariant-loop-cell : goal.invariant-loop-cell
invariant-loop-cell g l =
    all_read (text_read l.pos) (contents_of g.T.ReadCell.content l.row.exposed)
    ≡ following (map string_bytes l.values.items) (all_read (text_read l.pos) (contents_of g.T.ReadCell.content l.rest.exposed))

abbrev pub decreases-loop-cell : goal.decreases-loop-cell
decreases-loop-cell g l = length l.rest.exposed
