-- Known values, so that a wrong rule of a count or of a prefix does not check.
use Rattle.std.proofs.Common.{◌≡◌, ◌-◌, ◌^◌, ℕ, [], ◌∷◌, Some, None, refl, arith}
use Rattle.xls_output.specs.Causes.{Rose}
use Rattle.xls_output.specs.Written.{AppendsPrefix}

-- a fault raises the count, and without one it doesn't rise
pub first_fault : Rose 0 1
first_fault = omega arith

pub no_fault : ¬ Rose 3 3
no_fault p = omega (arith, p)

-- two of three letters were written after another
pub written_prefix : AppendsPrefix (Some (64 ∷ [])) (Some (64 ∷ 65 ∷ 66 ∷ [])) (65 ∷ 66 ∷ 67 ∷ [])
written_prefix = (65 ∷ 66 ∷ [], 67 ∷ [], refl, refl)
