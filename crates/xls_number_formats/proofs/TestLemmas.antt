-- What a test says.
use Rattle.std.proofs.Common.{◌≡◌, ℕ, ◌==◌, true, arith}
use Rattle.std.proofs.lemmas.Bool.Decides.{nat_tests}

pub eq_from_test : (a b : ℕ) → (a == b) ≡ true → a ≡ b
eq_from_test a b e = grind (arith, nat_tests)
