use Rattle.std.proofs.Common.{◌^◌, min, arith, ap, ◌∙◌, sym}
use Rattle.xls_rounding.proofs.LimbLemmas.{five_short}
use Rattle.xls_rounding.proofs.ScaleLemmas.{product_is, product_many}
use Rattle.xls_rounding.proofs.doubles.product.Goals as goal

pub returns-then-exponent-tens-ge1074 : goal.returns-then-exponent-tens-ge1074
returns-then-exponent-tens-ge1074 c =
    let a = c.args in
    let many = product_many a.mantissa a.exponent a.tens c.requires.least c.if-exponent-tens-ge1074.true in
    omega (arith, many)

pub pow-requires : goal.pow-requires
pow-requires c = five_short c.args.tens (omega arith)

pub returns-then-down-lt128 : goal.returns-then-down-lt128
returns-then-down-lt128 c =
    let a = c.args in
    let is = product_is a.mantissa a.exponent a.tens (omega arith) in
    rw is (rw c.pow.ensures at c.min.ensures)

pub returns : goal.returns
returns c =
    let a = c.args in
    c.long_product.ensures ∙ ap (λ t. min t (2 ^ 52)) (sym (product_is a.mantissa a.exponent a.tens (omega arith)))
