use Rattle.std.proofs.Common.{◌*◌, ◌^◌, ap, ◌∙◌}
use Rattle.xls_shown_fractions.proofs.RatioLemmas.{mixed_by, improper_is}
use Rattle.xls_shown_fractions.proofs.ratios.large_improper.Goals as goal

pub returns-clause-exact : goal.returns-clause-exact
returns-clause-exact c =
    let n = c.at_place-whole.result in
    let d = c.args.denominator in
    ap (λ w. mixed_by w (n.digits * d * 10 ^ n.zeros) d) c.small.ensures.value
    ∙ ap (λ k. mixed_by 0 k d) (improper_is n.digits (10 ^ n.zeros) _ d c.at_place-whole.ensures.exact)
