use Rattle.std.proofs.Common.{map, subst}
use Rattle.std.specs.Prelude.{IfOk}
use Rattle.xls_data.specs.Data.{is_nothing}
use Rattle.xls_data.specs.Sheets.{sheet_content}
use Rattle.xls_data.specs.contracts.values.DataPartialEq.TheImpl as data_impl
use Rattle.xls_book.specs.LookUps.{AreWorksheets}
use Rattle.xls_meaning.specs.Reading.{last_named, paired}
use Rattle.xls_book.proofs.xls.Xls.named_boxes.Goals as goal

pub returns : goal.returns
returns c =
    let eq = data_impl.ghosts.eq in
    let names = map sheet_content c.self.inside.metadata.sheets.items in
    rw (← c.self.view_is)
    (subst (λ vs. IfOk c.list_worksheets.result (λ list. AreWorksheets eq is_nothing (last_named (paired names vs)) names list.items)) c.deref-2.ensures.value
    (subst (λ ss. IfOk c.list_worksheets.result (λ list. AreWorksheets eq is_nothing (last_named (paired (map sheet_content ss) c.deref-2.result.now)) (map sheet_content ss) list.items)) c.deref.ensures.value c.list_worksheets.ensures))
