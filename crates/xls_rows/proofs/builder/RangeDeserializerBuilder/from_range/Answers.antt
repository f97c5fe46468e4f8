use Rattle.std.proofs.Common.{◌≡◌, ◌∷◌, ◌∙◌, sym, false, length}
use Rattle.xls_range.specs.Lists.{rows_of}
use Rattle.xls_rows.specs.Ranges.{is_unnamed}
use Rattle.xls_rows.specs.Chosen.{chosen}
use Rattle.xls_rows.proofs.ColumnLemmas.{rows_wide}
use Rattle.xls_rows.proofs.RangeLemmas.{all_after, first_of_all, named_read}
use Rattle.xls_rows.proofs.builder.RangeDeserializerBuilder.from_range.Goals as goal

pub unnamed_rows-requires-clause-wide : goal.unnamed_rows-requires-clause-wide
unnamed_rows-requires-clause-wide g c =
    rw (c.rows-rows.ensures.items, c.width-width.ensures) (rows_wide c.args.range.now.height c.args.range.now.width c.args.range.now.cells c.rows-rows.ensures.range.count)

pub named_rows-requires-clause-wide : goal.named_rows-requires-clause-wide
named_rows-requires-clause-wide g c =
    let all = rows_wide c.args.range.now.height c.args.range.now.width c.args.range.now.cells c.rows-rows.ensures.range.count in
    let rows : rows_of c.args.range.now.height c.args.range.now.width c.args.range.now.cells ≡ c.in-Some.first.now ∷ c.next.new.self =
    sym c.rows-rows.ensures.items ∙ c.in-Some.ensures.steps in
    let wide = first_of_all (λ row. length row ≡ c.args.range.now.width) _ _ _ rows all in
    rw wide (all_after (λ row. length row ≡ c.args.range.now.width) _ _ _ rows all)

pub returns-in-Some : goal.returns-in-Some
returns-in-Some g c =
    let named : is_unnamed (chosen c.args.self.now) ≡ false = rw (← c.has_no_names.ensures) c.if-has_no_names.false in
    let rows : rows_of c.args.range.now.height c.args.range.now.width c.args.range.now.cells ≡ c.in-Some.first.now ∷ c.next.new.self =
    sym c.rows-rows.ensures.items ∙ c.in-Some.ensures.steps in
    let wide = first_of_all (λ row. length row ≡ c.args.range.now.width) _ _ _ rows
    (rows_wide c.args.range.now.height c.args.range.now.width c.args.range.now.cells c.rows-rows.ensures.range.count) in
    rw (named_read (chosen c.args.self.now) g.T.ReadCell.content c.args.range.now c.in-Some.first.now c.next.new.self named rows)
    (rw (wide, c.first_position-top.ensures) at c.named_rows.ensures)
