use Rattle.std.proofs.Common.{◌≡◌, arith, sym, ◌∙◌}
use Rattle.xls_shown_fractions.proofs.RatioLemmas.{none_left, all_taken, step, stop}
use Rattle.xls_shown_fractions.proofs.ratios.convergent.Goals as goal

pub returns-then-rest : goal.returns-then-rest
returns-then-rest c = record {
  exact = sym (none_left c.args.most c.quotients.before c.quotients.last c.quotients.left c.quotients.rest c.if-rest.true) ∙ c.quotients.invariant.same;
}

pub returns-then-not-fits : goal.returns-then-not-fits
returns-then-not-fits c = record {
  exact = stop c.args.most c.quotients.before c.quotients.last c.quotients.left c.quotients.rest c.recip-reciprocal.result c.saturating_f64_to_u64-quotient.result
      c.next-numerator.result c.next-denominator.result _ c.quotients-test.true c.if-rest.false c.recip-reciprocal.ensures c.saturating_f64_to_u64-quotient.ensures
      c.next-numerator.ensures c.next-denominator.ensures (sym c.fits.ensures ∙ c.if-not-fits.true) c.quotients.invariant.same;
}

pub quotients-preserved : goal.quotients-preserved
quotients-preserved c = record {
  same = step c.args.most c.quotients.before c.quotients.last c.quotients.left c.quotients.rest c.recip-reciprocal.result c.fract-rest.result c.saturating_f64_to_u64-quotient.result
      c.next-numerator.result c.next-denominator.result _ c.quotients-test.true c.if-rest.false c.recip-reciprocal.ensures c.saturating_f64_to_u64-quotient.ensures
      c.next-numerator.ensures c.next-denominator.ensures (sym c.fits.ensures ∙ c.if-not-fits.false) c.fract-rest.ensures c.quotients.invariant.same;
}

pub returns : goal.returns
returns c =
    let none : c.quotients.left ≡ 0 = omega (arith, c.quotients-test.false) in
    record { exact = sym (all_taken c.args.most c.quotients.before c.quotients.last c.quotients.left c.quotients.rest none) ∙ c.quotients.invariant.same }
