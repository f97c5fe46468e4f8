-- Encrypted workbooks, which a password makes plain.
use Rattle.std.specs.Prelude.{◌≡◌, ◌⊎◌, ℕ, List, Err}
use Rattle.xls_answers.specs.declared.failure.Failure.TheVariants.{Stopped}
use Rattle.xls_output.specs.declared.stop.Stop.TheVariants.{Memory}
use Rattle.xls_passwords.specs.Opening.{opened}
use Rattle.xls_passwords.specs.declared.opening.Refusal.{Refusal}
use Rattle.xls_tool.specs.declared.problem.Problem.{Problem}
use Rattle.xls_tool.specs.declared.problem.Problem.TheVariants as problems

-- it isn't made plain, for this reason; or memory ran out
abbrev pub IsLocked : List ℕ → List (List ℕ) → Problem → Type 0
IsLocked stream passwords p =
    (p ≡ problems.Failure (Stopped Memory))
    ⊎ ((refusal : Refusal) × (opened stream passwords ≡ Err refusal) × (p ≡ problems.Encrypted refusal))
