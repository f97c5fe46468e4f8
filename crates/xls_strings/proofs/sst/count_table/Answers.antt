use Rattle.std.proofs.Common.{sym, ◌∙◌, rules, arith}
use Rattle.std.proofs.lemmas.Bool.{false≢true}
use Rattle.xls_strings.proofs.SstLemmas.{next_lighter, table_fails, count_more}
use Rattle.xls_strings.proofs.sst.count_table.Goals as goal

pub table-smaller : goal.table-smaller
table-smaller c =
    let x = c.in_ok-skip_next.ensures in
    omega (arith, next_lighter c.table.text c.skip_next.new.text x.0 x.1)

pub table-preserved : goal.table-preserved
table-preserved c =
    let l = c.table in
    count_more c.args.text l.text c.skip_next.new.text l.invariant.0 l.count l.invariant.1 l.invariant.2 l.invariant.3 c.in_ok-skip_next.ensures

pub returns-in_err-skip_next : goal.returns-in_err-skip_next
returns-in_err-skip_next c =
    search (rules, table_fails c.in_err-skip_next.field-0.0 c.args.text c.table.invariant.0 c.table.text c.table.invariant.1 (λ e. false≢true (sym c.table-test.true ∙ c.is_over.ensures.1 e)) c.in_err-skip_next.ensures)
