-- Hexadecimal digits.
use Rattle.std.proofs.Common.{◌≡◌, ℕ, ◌-◌, ◌^◌, [], false}
use Rattle.std.specs.Fmt.{padded_integral, format_spec, digits, char_count}
use Rattle.std.proofs.Common.{append-nil}
use Rattle.std.proofs.Math.Nat.{sub-zero}
use Rattle.xls_styles.specs.Colors.{six_digits}

-- what `{:06x}` writes
pub padded_hex : (n : ℕ) → padded_integral (format_spec 32 0 4 6 (2 ^ 64 - 1)) false [] (digits 16 false n) ≡ six_digits n
unfolding padded_integral six_digits char_count
padded_hex n = simp (append-nil, sub-zero)
