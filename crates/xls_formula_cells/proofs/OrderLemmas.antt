-- What holds of all of some values holds of all of them in order.
use Rattle.std.proofs.Common.{◌≡◌, List, [], ◌∷◌, refl, Bool, true, false}
use Rattle.std.specs.Prelude.{if◌then◌else◌}
use Rattle.std.specs.List.{AllByRecursion}
use Rattle.xls_range.specs.Positions.{Position}
use Rattle.xls_parts.specs.PartRecords.{records_within, outer_from, own_from, own_records}
use Rattle.xls_style_cells.specs.Order.{precedes, put_under, settled}
use Rattle.xls_formula_cells.specs.Formulas.{formulas_in}

module _ {X : Type 0} (P : Position × X → Type 0) where
  all_under : (c : Position × X) (xs : List (Position × X)) → P c → AllByRecursion P xs → AllByRecursion P (put_under c xs)
  all_under c [] h a = (h, tt)
  all_under c (x ∷ xs) h a = by_test (all_under c xs h a.1) (precedes c.0 x.0) (precedes x.0 c.0)
    where
      by_test : AllByRecursion P (put_under c xs)
          → (t u : Bool) → AllByRecursion P (if t then c ∷ x ∷ xs else if u then x ∷ put_under c xs else x ∷ xs)
      by_test on true u = (h, a)
      by_test on false true = (a.0, on)
      by_test on false false = a

  pub all_settled : (xs : List (Position × X)) → AllByRecursion P xs → AllByRecursion P (settled xs)
  all_settled [] a = tt
  all_settled (x ∷ xs) a = all_under x (settled xs) a.0 (all_settled xs a.1)

-- no bytes have no formulas
pub no_formulas : formulas_in (own_records 0 []) ≡ []
unfolding records_within outer_from own_from
no_formulas = refl
