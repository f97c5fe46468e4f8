use Rattle.std.proofs.Common.{◌∙◌, ◌++◌, List, sym, ap, arith, map}
use Rattle.xls_formula.specs.Context.{Context}
use Rattle.xls_refs.specs.Cited.{BookCitation, book_citation_of}
use Rattle.xls_refs.specs.Views.{cited_of, sheets_cited}
use Rattle.std.specs.Prelude.{slice_get}
use Rattle.xls_refs.proofs.ViewLemmas.{sheets_more, whole}
use Rattle.xls_refs.proofs.book.cites_of_view.Goals as goal

pub loop-sheet-preserved : goal.loop-sheet-preserved
loop-sheet-preserved c =
    let sheets = sheets_cited c.args.view.now in
    let i = c.loop-sheet.sheet in
    c.in_ok-put_sheet_at.ensures
    ∙ ap (λ (l : List BookCitation). l ++ cited_of (slice_get sheets i)) c.loop-sheet.invariant
    ∙ sym (sheets_more sheets i)

pub returns : goal.returns
returns c =
    whole c.args.view.now c.in_ok-names.names (map book_citation_of c.loop-sheet.items.items) c.loop-sheet.sheet
    (c.in_ok-names.ensures ∙ ap (λ (x : Context). x.sheets) c.naming.ensures) (omega (arith, c.loop-sheet-test.false, c.len-sheet-end.ensures))
    c.loop-sheet.invariant
