use Rattle.std.proofs.Common.{◌≡◌, ◌++◌}
use Rattle.xls_parts.specs.PartRecords.{own_records}
use Rattle.xls_style_cells.specs.Places.{places_in}
use Rattle.xls_style_cells.proofs.places.read_places.Given as goal

-- the places so far, and those of the records that are left
abbrev pub invariant-records : goal.invariant-records
invariant-records l =
    (goal.iterator-records).can_next l.r-iterator ×
    (goal.iterator-records).is_finite l.r-iterator ×
    (l.found ++ places_in l.r-iterator ≡ places_in (own_records 0 l.part))
