use Rattle.std.proofs.Common.{◌≡◌, arith, sym}
use Rattle.xls_rounding.specs.Fractions.{places}
use Rattle.xls_rounding.proofs.PlaceLemmas.{count_more, count_all, places_is}
use Rattle.xls_rounding.proofs.decimals.places.Goals as goal

pub loop-rest-preserved : goal.loop-rest-preserved
loop-rest-preserved c =
    let l = c.loop-rest in
    count_more l.count l.rest _ l.invariant.0 l.invariant.1 l.invariant.2 (omega arith)

pub returns-clause-value : goal.returns-clause-value
unfolding places
returns-clause-value c =
    let l = c.loop-rest in
    let none : l.rest ≡ 0 = omega arith in
    count_all l.count _ (rw none at l.invariant.2)

pub returns-then-n-lt1000000000000000-clause-value : goal.returns-then-n-lt1000000000000000-clause-value
returns-then-n-lt1000000000000000-clause-value c = sym (places_is 14 c.args.n (omega arith) (omega arith) (omega arith))
