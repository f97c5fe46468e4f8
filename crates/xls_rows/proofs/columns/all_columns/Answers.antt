use Rattle.std.proofs.Common.{◌≡◌, ◌∙◌, ◌<◌, ◌∷◌, ◌++◌, [], sym, ap, subst, arith}
use Rattle.std.specs.Prelude.{All}
use Rattle.xls_rows.specs.Columns.{numbers_from}
use Rattle.xls_rows.proofs.ColumnLemmas.{numbers_more, numbers_below}
use Rattle.xls_rows.proofs.columns.all_columns.Goals as goal

pub loop-i-preserved : goal.loop-i-preserved
loop-i-preserved c =
    let grown : c.push.new.self.items ≡ c.loop-i.indexes.items ++ c.loop-i.i ∷ [] = rw c.if-is_err.ensures.negation at c.push.ensures.items in
    grown ∙ ap (λ l. l ++ c.loop-i.i ∷ []) c.loop-i.invariant ∙ sym (numbers_more c.loop-i.i)

pub returns-clause-value : goal.returns-clause-value
returns-clause-value c = c.loop-i.invariant ∙ ap (λ n. numbers_from 0 n) (omega (arith, c.loop-i-test.false, c.loop-i.auto.i-end))

pub returns-clause-below : goal.returns-clause-below
returns-clause-below c =
    let all : c.loop-i.indexes.items ≡ numbers_from 0 c.args.width = c.loop-i.invariant ∙ ap (λ n. numbers_from 0 n) (omega (arith, c.loop-i-test.false, c.loop-i.auto.i-end)) in
    subst (λ l. All (λ k. k < c.args.width) l) (sym all) (numbers_below c.args.width)
