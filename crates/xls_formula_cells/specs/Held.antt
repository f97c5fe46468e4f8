-- For the proofs: the formulas of a sheet by how they are held.
use Rattle.std.specs.Prelude.{ℕ, ◌<◌, List, Option, Some, None}
use Rattle.std.specs.List.{AllByRecursion}
use Rattle.xls_range.specs.Positions.{Entry}
use Rattle.xls_parts.specs.PartRecords.{own_records}
use Rattle.xls_formula_cells.specs.Formulas.{formulas_in}

-- row and column have 16 bits
abbrev pub IsSmall : Entry ℕ → Type 0
IsSmall e = (e.0.0 < 0x10000) × (e.0.1 < 0x10000)

abbrev pub AreSmall : Option (List (Entry ℕ)) → Type 0
AreSmall None = Unit {0}
AreSmall (Some es) = AllByRecursion IsSmall es

-- as they stand in the part, or in order
abbrev pub held : ℕ → List ℕ → Option (List (Entry ℕ)) → List (Entry ℕ)
held offset part None = formulas_in (own_records offset part)
held offset part (Some es) = es
