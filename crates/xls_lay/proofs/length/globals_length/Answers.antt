use Rattle.std.proofs.Common.{◌+◌, ◌∙◌, sym, ap}
use Rattle.xls_lay.specs.Writing.{saturated}
use Rattle.xls_lay.specs.Cutting.{globals_size}
use Rattle.xls_lay.specs.Entries.{entries_in}
use Rattle.xls_lay.proofs.SizeLemmas.{summed_all, sum_by, globals_sum}
use Rattle.xls_lay.proofs.length.globals_length.Goals as goal

pub returns : goal.returns
returns c =
    let list = entries_in c.args.entries.now in
    summed_all globals_size (4 + sum_by globals_size list) c.loop-entry.size c.args.entries.now c.loop-entry.entry-index c.loop-entry-test.false c.loop-entry.invariant
    ∙ ap saturated (sym (globals_sum 0 list))
