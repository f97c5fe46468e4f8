-- Digits of naturals, as ASCII codes.
use Rattle.std.specs.Prelude.{◌≤◌, ℕ, zero, suc, ◌+◌, ◌/◌, ◌%◌, ◌^◌, pos, negsuc, ◌≤ℤ◌, List, [], ◌∷◌, ◌++◌}
use Rattle.xls_rounding.specs.declared.decimals.Decimal.{Decimal}

-- the last p digits of a natural, with zeros where it has fewer
unfoldable pub last_digits : ℕ → ℕ → List ℕ
last_digits zero n = []
last_digits (suc p) n = last_digits p (n / 10) ++ (48 + n % 10) ∷ []

-- 15 digits, or 10 ^ 15, and an exponent that a double can have
pub record Is15Digits (d : Decimal) : Type 0 where
  pub least : 10 ^ 14 ≤ d.digits
  pub most : d.digits ≤ 10 ^ 15
  pub low : negsuc 999 ≤ℤ d.exponent
  pub high : d.exponent ≤ℤ pos 1000
