use Rattle.xls_biff.specs.Walking.{group_of}
use Rattle.xls_lay.proofs.ReadLemmas.{sheet_item_taken}
use Rattle.xls_lay.proofs.read.take_record.Goals as goal

pub returns-then-r-eq-BOUND_SHEET_8-clause-entry : goal.returns-then-r-eq-BOUND_SHEET_8-clause-entry
returns-then-r-eq-BOUND_SHEET_8-clause-entry c = λ t i is whole.
    sheet_item_taken c.args.stream.now (group_of c.args.r.now) i c.args.list.now c.take_sheet.new.list c.take_sheet.result c.if-r-eq-BOUND_SHEET_8.true is whole c.take_sheet.ensures
