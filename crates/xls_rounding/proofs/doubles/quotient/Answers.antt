use Rattle.std.proofs.Common.{◌≡◌, ◌-◌, ◌*◌, ◌%◌, ◌^◌, min, arith, ap, ◌∙◌, sym}
use Rattle.std.proofs.lemmas.Nat.{shl_whole}
use Rattle.xls_rounding.proofs.PlaceLemmas.{ten_pos}
use Rattle.xls_rounding.proofs.ScaleLemmas.{quotient_none, quotient_low, quotient_high, quotient_short}
use Rattle.xls_rounding.proofs.doubles.quotient.Goals as goal

pub returns-then-down-gt52 : goal.returns-then-down-gt52
returns-then-down-gt52 c =
    let a = c.args in
    let none = quotient_none a.mantissa a.exponent a.tens c.requires.mantissa c.if-exponent-lt1074.true c.then-down-gt52.either in
    omega (arith, none)

pub nonzero_div-result : goal.nonzero_div-result
nonzero_div-result c = let some = ten_pos c.args.tens in omega arith

pub returns-then-exponent-lt1074 : goal.returns-then-exponent-lt1074
returns-then-exponent-lt1074 c =
    let a = c.args in
    let is = quotient_low a.mantissa a.exponent a.tens c.if-exponent-lt1074.true in
    let short = quotient_short a.mantissa a.exponent a.tens c.requires.mantissa c.requires.tens.0 in
    rw (c.pow.ensures, is) (omega (arith, short))

pub nonzero_div-quotient : goal.nonzero_div-quotient
nonzero_div-quotient c = let some = ten_pos c.args.tens in omega arith

pub returns-then-tens-le19 : goal.returns-then-tens-le19
returns-then-tens-le19 c =
    let a = c.args in
    let whole : a.mantissa * 2 ^ (a.exponent - 1074) % 2 ^ 128 ≡ a.mantissa * 2 ^ (a.exponent - 1074) =
    shl_whole a.mantissa 53 (a.exponent - 1074) 128 c.requires.mantissa (omega arith) in
    let is = quotient_high a.mantissa a.exponent a.tens c.if-exponent-lt1074.false in
    rw is (rw (c.pow-then-tens-le19.ensures, whole) at c.min.ensures)

pub returns : goal.returns
returns c =
    let a = c.args in
    c.long_quotient.ensures ∙ ap (λ t. min t (2 ^ 52)) (sym (quotient_high a.mantissa a.exponent a.tens c.if-exponent-lt1074.false))
