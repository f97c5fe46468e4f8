use Rattle.std.proofs.Common.{sym, ap, subst, length, ◌∙◌}
use Rattle.std.specs.List.{AllByRecursion}
use Rattle.std.proofs.lemmas.List.{length-map}
use Rattle.xls_data.specs.Sheets.{sheet_content}
use Rattle.xls_open.specs.Workbook.{IsOrdered}
use Rattle.xls_book.proofs.OpenLemmas.{all_ordered, as_many}
use Rattle.xls_book.proofs.xls.open_bytes.Goals as goal

pub invariant_of-result : goal.invariant_of-result
invariant_of-result c =
    let is = c.in_ok-view.ensures.ok in
    let view = c.in_ok-view.view in (
      ap length c.in_ok-contents.ensures
          ∙ as_many c.args.options c.args.bytes.now view is
          ∙ ap length (sym c.into_parts-sheets.ensures.sheets)
          ∙ length-map c.into_parts-sheets.result.sheets.items sheet_content,
      c.into_parts-sheets.ensures.index,
      subst (AllByRecursion IsOrdered) (sym c.in_ok-contents.ensures) (all_ordered c.args.options c.args.bytes.now view is),
    )
