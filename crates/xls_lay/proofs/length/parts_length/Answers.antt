use Rattle.std.proofs.Common.{◌∙◌, sym, ap}
use Rattle.xls_lay.specs.Writing.{saturated}
use Rattle.xls_lay.specs.Cutting.{part_size}
use Rattle.xls_lay.specs.Entries.{entries_in}
use Rattle.xls_lay.proofs.SizeLemmas.{summed_all, sum_by, parts_sum}
use Rattle.xls_lay.proofs.length.parts_length.Goals as goal

pub returns : goal.returns
returns c =
    let list = entries_in c.args.entries.now in
    summed_all part_size (sum_by part_size list) c.loop-entry.size c.args.entries.now c.loop-entry.entry-index c.loop-entry-test.false c.loop-entry.invariant
    ∙ ap saturated (sym (parts_sum list))
