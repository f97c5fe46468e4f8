-- Fractions in lowest terms.
use Rattle.std.specs.Prelude.{◌≡◌, ℕ, ◌*◌}

-- no number but 1 divides both parts
abbrev pub IsLowest : ℕ → ℕ → Type 0
IsLowest n d = (k a b : ℕ) → a * k ≡ n → b * k ≡ d → k ≡ 1
