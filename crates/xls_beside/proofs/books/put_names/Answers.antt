use Rattle.xls_other_books.specs.Names.{NameFields, name_view}
use Rattle.xls_beside.specs.Books.{book_name}
use Rattle.std.proofs.Common.{◌∷◌, [], ◌∙◌}
use Rattle.xls_output.proofs.EachLemmas.{each-as, each-item, each-item-stopped, each-none, each-stops-as, puts-each-stop}
use Rattle.xls_beside.specs.Lines.{IsLineText}
use Rattle.xls_beside.proofs.LineLemmas.{viewed_lines, whole_lines}
use Rattle.xls_beside.proofs.books.put_names.Goals as goal

pub loop-name-init : goal.loop-name-init
loop-name-init g c = each-none (IsLineText c.args.form) _

pub loop-name-preserved : goal.loop-name-preserved
loop-name-preserved g c =
    each-item (λ (n : NameFields). book_name c.args.linked (name_view n) ∷ []) c.args.names.now
    c.loop-name.name-index _ c.loop-name-test.true c.loop-name.invariant (rw c.name-item.is at c.in_ok-put_name.ensures)

pub returns-in_err-put_name : goal.returns-in_err-put_name
returns-in_err-put_name g c =
    puts-each-stop c.from_residual.result c.from_residual.ensures.1
    (each-stops-as (each-item-stopped (λ (n : NameFields). book_name c.args.linked (name_view n) ∷ []) c.args.names.now
    c.loop-name.name-index _ c.loop-name-test.true c.loop-name.invariant (rw c.name-item.is at c.in_err-put_name.ensures))
    (viewed_lines (book_name c.args.linked) name_view c.args.names.now))

pub returns : goal.returns
returns g c =
    each-as c.loop-name.invariant
    (whole_lines (λ (n : NameFields). book_name c.args.linked (name_view n) ∷ []) c.args.names.now _ c.loop-name-test.false
    ∙ viewed_lines (book_name c.args.linked) name_view c.args.names.now)
