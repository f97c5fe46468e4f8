use Rattle.std.proofs.Common.{◌∷◌, [], ◌∙◌}
use Rattle.xls_other_books.specs.Names.{NameFields, name_view}
use Rattle.xls_beside.specs.Books.{book_name}
use Rattle.xls_beside.proofs.DamagedLemmas.{counts_same, first_all, first_one}
use Rattle.xls_beside.proofs.LineLemmas.{viewed_lines}
use Rattle.xls_beside.proofs.books.names_damaged.Goals as goal

pub loop-name-preserved : goal.loop-name-preserved
loop-name-preserved c = λ linked.
    first_one (λ (n : NameFields). book_name linked (name_view n) ∷ []) c.args.names.now c.loop-name.name-index _ c.loop-name-test.true
    (c.loop-name.invariant linked) (rw c.name-item.is at c.name_damaged.ensures linked) c.counted-count.ensures

pub returns : goal.returns
returns c = λ linked.
    first_all (λ (n : NameFields). book_name linked (name_view n) ∷ []) c.args.names.now _ c.loop-name-test.false
    (c.loop-name.invariant linked)
    ∙ counts_same (viewed_lines (book_name linked) name_view c.args.names.now)
