use Rattle.std.proofs.Common.{sym}
use Rattle.std.proofs.lemmas.List.FromFn.{length-map-range_with_len}
use Rattle.xls_biff.specs.Records.Rk.{rk_cell}
use Rattle.xls_biff.proofs.sheet_record.SheetRecord.weight.Goals as goal

pub returns-in-MulRk : goal.returns-in-MulRk
returns-in-MulRk c = λ settings.
    rw c.in-MulRk.is (sym (length-map-range_with_len (rk_cell settings.classes settings.is_1904 c.in-MulRk.body.now) 0 c.in-MulRk.count))
