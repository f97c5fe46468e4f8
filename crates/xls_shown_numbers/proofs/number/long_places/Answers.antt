use Rattle.std.proofs.Common.{◌+◌, ◌/◌, ◌^◌, ◌≤◌, arith, ap, ◌∙◌}
use Rattle.xls_shown_numbers.proofs.NumberLemmas.{places_19, two_steps}
use Rattle.xls_shown_numbers.proofs.number.long_places.Goals as goal

pub returns-then-high-lt-TEN_TO_19-clause-value : goal.returns-then-high-lt-TEN_TO_19-clause-value
returns-then-high-lt-TEN_TO_19-clause-value c = ap (λ t. t + 19) c.places-then-high-lt-TEN_TO_19.ensures.value ∙ places_19 c.args.n (omega arith) (omega arith)

pub returns-clause-value : goal.returns-clause-value
returns-clause-value c =
    let high = c.args.n / 10 ^ 19 in
    let far : 10 ^ 19 ≤ high = omega arith in
    ap (λ t. t + 38) c.places-2.ensures.value ∙ two_steps c.args.n far (omega arith)
