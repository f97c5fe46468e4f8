use Rattle.xls_other_books.specs.Outside.{cited_view}
use Rattle.xls_other_books.specs.declared.outside.Cited.{Cited}
use Rattle.xls_beside.specs.Books.{cited_line}
use Rattle.std.proofs.Common.{◌∷◌, [], ◌∙◌}
use Rattle.xls_output.proofs.EachLemmas.{each-as, each-item, each-item-stopped, each-none, each-stops-as, puts-each-stop}
use Rattle.xls_beside.specs.Lines.{IsLineText}
use Rattle.xls_beside.proofs.LineLemmas.{viewed_lines, whole_lines}
use Rattle.xls_beside.proofs.books.put_all_cited.Goals as goal

pub loop-next-init : goal.loop-next-init
loop-next-init g c = each-none (IsLineText c.args.form) _

pub loop-next-preserved : goal.loop-next-preserved
loop-next-preserved g c =
    each-item (λ (x : Cited). cited_line c.args.row c.args.column (cited_view x) ∷ []) c.args.cited.now
    c.loop-next.next-index _ c.loop-next-test.true c.loop-next.invariant (rw c.next-item.is at c.in_ok-put_cited.ensures)

pub returns-in_err-put_cited : goal.returns-in_err-put_cited
returns-in_err-put_cited g c =
    puts-each-stop c.from_residual.result c.from_residual.ensures.1
    (each-stops-as (each-item-stopped (λ (x : Cited). cited_line c.args.row c.args.column (cited_view x) ∷ []) c.args.cited.now
    c.loop-next.next-index _ c.loop-next-test.true c.loop-next.invariant (rw c.next-item.is at c.in_err-put_cited.ensures))
    (viewed_lines (cited_line c.args.row c.args.column) cited_view c.args.cited.now))

pub returns : goal.returns
returns g c =
    each-as c.loop-next.invariant
    (whole_lines (λ (x : Cited). cited_line c.args.row c.args.column (cited_view x) ∷ []) c.args.cited.now _ c.loop-next-test.false
    ∙ viewed_lines (cited_line c.args.row c.args.column) cited_view c.args.cited.now)
