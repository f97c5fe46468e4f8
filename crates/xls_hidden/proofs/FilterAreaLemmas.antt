-- The areas of filters, record by record.
use Rattle.std.proofs.Common.{◌≡◌, ℕ, List, [], ◌∷◌, refl, sym, ap, ◌∙◌, subst, arith, Option, Some, None, slice_index_or}
use Rattle.xls_record.specs.declared.version.Biff.{Biff}
use Rattle.xls_hidden.specs.Walking.{GainsArea, AreAreasSoFar}
use Rattle.xls_hidden.specs.declared.lines.FilterArea.{FilterArea}
use Rattle.xls_parts.specs.PartRecords.{Placed}
use Rattle.xls_hidden.specs.FilterAreas.{record_area, area_for, or_else, first_area, AreAreas}

or_none : (x : Option FilterArea) → or_else x None ≡ x
or_none None = refl
or_none (Some x) = refl

or_assoc : (x y z : Option FilterArea) → or_else (or_else x y) z ≡ or_else x (or_else y z)
or_assoc None y z = refl
or_assoc (Some x) y z = refl

pub all_areas : (version : Biff) (all left : List Placed) (sheets : ℕ) (areas : List (Option FilterArea)) → left ≡ [] → AreAreasSoFar version all left sheets areas → AreAreas version all sheets areas
all_areas version all left sheets areas e s =
    let over = subst (λ (rs : List Placed). AreAreasSoFar version all rs sheets areas) e s in
    record { count = over.count; each = λ sheet h. sym (or_none (slice_index_or areas sheet None)) ∙ over.each sheet h }

pub more_areas : (version : Biff) (all before left : List Placed) (r : Placed) (sheets : ℕ) (old new : List (Option FilterArea)) → before ≡ r ∷ left
    → AreAreasSoFar version all before sheets old → GainsArea old (record_area version r) new → AreAreasSoFar version all left sheets new
more_areas version all before left r sheets old new e s g =
    let so_far = subst (λ (rs : List Placed). AreAreasSoFar version all rs sheets old) e s in
    record {
      count = g.same_length ∙ so_far.count;
      each = λ sheet h.
          ap (λ (x : Option FilterArea). or_else x (first_area version sheet left)) (g.each sheet (omega (arith, h, so_far.count)))
          ∙ or_assoc (slice_index_or old sheet None) (area_for sheet (record_area version r)) (first_area version sheet left)
          ∙ so_far.each sheet h;
    }
