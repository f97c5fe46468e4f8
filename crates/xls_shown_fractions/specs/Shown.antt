-- For the proofs: a number of the code as a whole number and a fraction.
use Rattle.xls_shown_numbers.specs.Numbers.{value}
use Rattle.xls_shown_fractions.specs.declared.ratios.Ratio.{Ratio}
use Rattle.xls_shown_fractions.specs.Ratios.{Mixed}

abbrev pub mixed : Ratio → Mixed
mixed r = record { whole = value r.whole; numerator = value r.numerator; denominator = r.denominator }
