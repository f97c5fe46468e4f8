use Rattle.std.proofs.Common.{◌+◌, ◌∙◌, ap, sym, arith}
use Rattle.std.specs.String.{string_bytes}
use Rattle.std.specs.Str.{chars}
use Rattle.xls_data.specs.declared.sheets.Sheet.{Sheet}
use Rattle.example_formulas.proofs.LineLemmas.{one_sheet_more, reported_at}
use Rattle.example_formulas.proofs.listing.listing_of.Goals as goal

-- the lines of one sheet more
pub loop-i-preserved : goal.loop-i-preserved
loop-i-preserved c =
    let l = c.loop-i in
    let book = c.args.book.now in (
      l.invariant.0,
      one_sheet_more book.sheets book.contents l.i (l.i + 1) _ _ _ _ _
          (reported_at c.sheets_metadata-sheets.result.now book.sheets l.i c.index-sheets-i.result c.loop-i-test.true c.index-sheets-i.is l.invariant.0)
          (ap chars c.as_str.ensures.value ∙ ap (λ (s : Sheet). chars (string_bytes s.name)) (sym c.index-sheets-i.is)) (omega arith) l.invariant.1 c.in_ok-push_sheet_at.ensures,
    )
