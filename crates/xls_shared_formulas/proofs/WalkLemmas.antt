-- The formulas of a sheet, record by record.
use Rattle.std.proofs.Common.{◌≡◌, ◌≢◌, ◌<◌, ℕ, List, [], ◌∷◌, length, refl, arith, Option, ne_eqb}
use Rattle.xls_record.specs.declared.version.Biff.{Biff}
use Rattle.xls_parts.specs.PartRecords.{Placed}
use Rattle.xls_shared_formulas.specs.declared.fields.CellPlace.{CellPlace}
use Rattle.xls_shared_formulas.specs.declared.found.RangeFormula.{RangeFormula}
use Rattle.xls_shared_formulas.specs.Fields.{formula_cell, or_else}
use Rattle.xls_shared_formulas.specs.Found.{formula_at, formulas_from, with_found}

module _ (version : Biff) (offset : ℕ) (part : List ℕ) (anchor : Option CellPlace) where
  pub from_end : formulas_from version offset part anchor [] ≡ []
  unfolding formulas_from
  from_end = refl

  pub from_cell : (r : Placed) (rs : List Placed) → r.typ ≡ 0x0006
      → formulas_from version offset part anchor (r ∷ rs) ≡ formulas_from version offset part (or_else (formula_cell r.body) anchor) rs
  unfolding formulas_from
  from_cell r rs e = rw e refl

  pub from_other : (r : Placed) (rs : List Placed) → r.typ ≢ 0x0006
      → formulas_from version offset part anchor (r ∷ rs) ≡ with_found (formula_at version offset part anchor r)
      (formulas_from version offset part anchor rs)
  unfolding formulas_from
  from_other r rs n = rw (ne_eqb r.typ 0x0006 n) refl

-- a list that begins with something is longer than the rest
pub one_fewer : (before after : List RangeFormula) (f : RangeFormula) → before ≡ f ∷ after → length after < length before
one_fewer before after f e = rw e (omega arith)
