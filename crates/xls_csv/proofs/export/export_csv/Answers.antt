use Rattle.std.proofs.Common.{ap, sym}
use Rattle.xls_data.specs.Data.{content_of}
use Rattle.xls_csv.specs.Text.{rows_csv}
use Rattle.xls_csv.proofs.DenseLemmas.{rows_of-map}
use Rattle.xls_csv.proofs.export.export_csv.Goals as goal

pub loop-row-init : goal.loop-row-init
loop-row-init c =
    let from = c.from_writer-writer.ensures in
    let range = c.args.range.now in (
      record { setup = from.cfg; fields = from.fields; wrote = from.wrote },
      rw (from.wtr, c.new.ensures.items, from.empty, c.into_iter-row-iterator.ensures.into_iter_gives, c.rows-row-items.ensures.items)
          (ap rows_csv (sym (rows_of-map content_of range.height range.width range.cells))),
    )
