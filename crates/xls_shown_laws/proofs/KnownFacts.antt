-- Known values, so that a wrong definition does not check.
use Rattle.std.proofs.Common.{◌≡◌, ◌∷◌, [], ◌++◌, map, refl, arith}
use Rattle.std.specs.Prelude.{codes}
use Rattle.std.specs.Fmt.{digits}
use Rattle.xls_rounding.specs.FormulaNumbers.{zeros}
use Rattle.xls_shown_numbers.specs.Digits.{last_digits}
use Rattle.xls_shown_laws.specs.Decimals.{with_decimals}
use Rattle.xls_shown_laws.specs.Fractions.{IsLowest}

-- the code with three zeros behind its point
pub known_code : codes "0." ++ zeros 3 ≡ codes "0.000"
known_code = refl

pub known_decimals : map (λ n. with_decimals n 2) (1234 ∷ 5 ∷ 100 ∷ 0 ∷ []) ≡ codes "12.34" ∷ codes "0.05" ∷ codes "1.00" ∷ codes "0.00" ∷ []
unfolding digits last_digits
known_decimals = refl

-- 2 divides both parts of 6/4
pub not_lowest : IsLowest 6 4 → ⊥
not_lowest h = omega (arith, h 2 3 2 refl refl)
