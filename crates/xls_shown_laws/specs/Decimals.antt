-- Numbers with all their decimals, as ASCII codes.
use Rattle.std.specs.Prelude.{ℕ, ◌/◌, ◌^◌, List, ◌++◌, codes}
use Rattle.std.specs.Fmt.{decimal}
use Rattle.xls_shown_numbers.specs.Digits.{last_digits}

-- n / 10 ^ p with p decimals, zeros at the end among them
abbrev pub with_decimals : ℕ → ℕ → List ℕ
with_decimals n p = decimal (n / 10 ^ p) ++ (codes "." ++ last_digits p n)
