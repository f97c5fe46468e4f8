-- For the proofs: what a sort keeps.
use Rattle.std.specs.Prelude.{◌≡◌, ℕ, List}
use Rattle.xls_shared_formulas.specs.declared.found.RangeFormula.{RangeFormula}
use Rattle.xls_shared_formulas.specs.Found.{last_at}

-- the last formula of each cell is the same
abbrev pub HasSameLast : List RangeFormula → List RangeFormula → Type 0
HasSameLast old new = (n : ℕ) → last_at n new ≡ last_at n old
