use Rattle.std.proofs.Common.{rules, ◌≡◌, ◌+◌, SFits, w64, subst, arith}
use Rattle.std.proofs.lemmas.Int.{ints}
use Rattle.xls_range.specs.Grid.{cell_at}
use Rattle.example_sum.specs.Sums.{total_above, int_in}
use Rattle.example_sum.proofs.SumLemmas.{IsSoFar, one_more}
use Rattle.example_sum.proofs.total_of.Goals as goal

-- one row more, whose sum has 128 bits
pub loop-i-preserved : goal.loop-i-preserved
loop-i-preserved c =
    let range = c.args.range.now in
    let column = c.args.column in
    let i = c.loop-i.i in
    let fits : SFits w64 c.int_of.result = search rules in
    let next : c.int_of.result ≡ int_in (cell_at range (range.top + i) column) = search rules in
    let more = one_more range column i _ c.int_of.result c.loop-i.invariant.1 fits next in
    let so_far = IsSoFar (total_above range column (i + 1)) (i + 1) in
    (c.loop-i.invariant.0, subst so_far (omega (arith, ints)) more)
