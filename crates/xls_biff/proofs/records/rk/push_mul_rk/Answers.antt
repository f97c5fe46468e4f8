use Rattle.xls_biff.specs.Cells.{cell_entry_of}
use Rattle.xls_biff.specs.Records.Rk.{rk_cell}
use Rattle.xls_biff.proofs.ListLemmas.{adds_more}
use Rattle.xls_biff.proofs.records.rk.push_mul_rk.Goals as goal

pub loop-i-preserved : goal.loop-i-preserved
loop-i-preserved c =
    adds_more cell_entry_of (rk_cell c.args.formats.now c.args.is_1904 c.args.r.now) c.args.cells.now.items c.loop-i.cells.items c.push.new.self.items c.loop-i.i c.cell_of_mul_rk.result c.loop-i.invariant c.in_ok-push.ensures.items c.cell_of_mul_rk.ensures
