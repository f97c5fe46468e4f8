-- Numbers as the stream has them.
use Rattle.std.specs.Prelude.{ℕ}
use Rattle.xls_dates.specs.declared.numbers.Number.{Number}
use Rattle.xls_dates.specs.declared.numbers.Number.TheVariants.{Bits, Whole, Hundredths, BitsOver100}

-- the form in which the stream has it
abbrev pub number_form : Number → ℕ
number_form (Bits bits) = 0
number_form (Whole n) = 1
number_form (Hundredths n) = 2
number_form (BitsOver100 bits) = 3
