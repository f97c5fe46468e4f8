use Rattle.std.proofs.Common.{◌≡◌, length, map}
use Rattle.xls_data.specs.Data.{content_of}
use Rattle.xls_rows.specs.Readers.{data_in}
use Rattle.xls_rows.specs.Rows.{all_read, contents_of}
use Rattle.xls_rows.proofs.ReadLemmas.{following}
use Rattle.xls_rows.proofs.from_row.VecDataFromRow.from_row.Given as goal

abbrev pub invariant-loop-cell : goal.invariant-loop-cell
invariant-loop-cell g l =
    all_read (data_in l.pos) (contents_of g.T.ReadCell.content l.row.exposed)
    ≡ following (map content_of l.values.items) (all_read (data_in l.pos) (contents_of g.T.ReadCell.content l.rest.exposed))

abbrev pub decreases-loop-cell : goal.decreases-loop-cell
decreases-loop-cell g l = length l.rest.exposed
