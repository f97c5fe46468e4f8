-- Dates that are more than a millisecond apart have different texts.
use Rattle.std.proofs.Common.{◌≡◌, ◌<◌, ◌*◌, arith}
use Rattle.xls_decimals.specs.Fractions.{day, milliseconds_of}
use Rattle.xls_decimals.specs.Laws.{DatesDiffer}
use Rattle.xls_decimals.proofs.OrderLemmas.{nearest_later, value_positive, moment_is, moment_within}
use Rattle.xls_decimals.proofs.ReadingLemmas.{moment_same}

pub texts_differ : DatesDiffer
texts_differ is_1904 m n x y p q a b later c d same =
    let first = moment_is is_1904 m x p a c in
    let second = moment_is is_1904 n y q b d in
    let order : milliseconds_of y < milliseconds_of x =
    nearest_later (x.numerator * day) x.denominator (y.numerator * day) y.denominator (value_positive m x a)
    (value_positive n y b) later in
    let equal : p ≡ q = moment_same is_1904 p q (moment_within is_1904 m x p a c) (moment_within is_1904 n y q b d) same in
    absurd (omega (arith, first, second, order, equal))
