use Rattle.std.proofs.Common.{◌^◌, min, ap, ◌∙◌, sym}
use Rattle.xls_rounding.proofs.ScaleLemmas.{twice_quotient, twice_product}
use Rattle.xls_rounding.proofs.doubles.twice_at.Goals as goal

pub returns-then-scale-lt308 : goal.returns-then-scale-lt308
returns-then-scale-lt308 c =
    let a = c.args in
    c.quotient.ensures ∙ ap (λ t. min t (2 ^ 52)) (sym (twice_quotient a.mantissa a.exponent a.scale c.if-scale-lt308.true))

pub returns-else-scale-lt308 : goal.returns-else-scale-lt308
returns-else-scale-lt308 c =
    let a = c.args in
    c.product.ensures ∙ ap (λ t. min t (2 ^ 52)) (sym (twice_product a.mantissa a.exponent a.scale c.if-scale-lt308.false))
