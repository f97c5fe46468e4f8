use Rattle.std.proofs.Common.{◌≡◌, drop, map, length}
use Rattle.std.specs.String.{string_bytes}
use Rattle.xls_rows.specs.Readers.{text_read}
use Rattle.xls_rows.specs.Rows.{all_read}
use Rattle.xls_rows.proofs.ReadLemmas.{following}
use Rattle.xls_rows.proofs.columns.texts_of.Given as goal

abbrev pub invariant-loop-cell : goal.invariant-loop-cell
invariant-loop-cell g l =
    (all_read (text_read l.pos) (map g.T.ReadCell.content l.cells)
    ≡ following (map string_bytes l.texts.items) (all_read (text_read l.pos) (map g.T.ReadCell.content (drop l.cell-index l.cells))))
    × (length l.texts.items ≡ l.cell-index)
