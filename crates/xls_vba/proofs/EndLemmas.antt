-- The last numbers of a module.
use Rattle.std.proofs.Common.{◌≡◌, ℕ, ◌<◌, ◌≤◌, List, [], ◌∷◌, length, take, drop, Err, refl, arith}
use Rattle.xls_bytes.specs.Numbers.{le}
use Rattle.xls_vba.specs.declared.error.VbaError.TheVariants as errors
use Rattle.xls_vba.specs.Modules.{end_by, end_from}

-- one number
pub end_more : (bytes : List ℕ) → 6 ≤ length bytes → end_from bytes ≡ end_by (le (take 2 (drop 4 bytes))) (drop 6 bytes) (end_from (drop 6 bytes))
end_more [] h = absurd (omega arith)
end_more (a ∷ []) h = absurd (omega arith)
end_more (a ∷ b ∷ []) h = absurd (omega arith)
end_more (a ∷ b ∷ c ∷ []) h = absurd (omega arith)
end_more (a ∷ b ∷ c ∷ d ∷ []) h = absurd (omega arith)
end_more (a ∷ b ∷ c ∷ d ∷ e ∷ []) h = absurd (omega arith)
end_more (a ∷ b ∷ c ∷ d ∷ e ∷ f ∷ rest) h = refl

-- none is whole
pub end_short : (bytes : List ℕ) → length bytes < 6 → end_from bytes ≡ Err errors.Truncated
end_short [] h = refl
end_short (a ∷ []) h = refl
end_short (a ∷ b ∷ []) h = refl
end_short (a ∷ b ∷ c ∷ []) h = refl
end_short (a ∷ b ∷ c ∷ d ∷ []) h = refl
end_short (a ∷ b ∷ c ∷ d ∷ e ∷ []) h = refl
end_short (a ∷ b ∷ c ∷ d ∷ e ∷ f ∷ rest) h = absurd (omega arith)
