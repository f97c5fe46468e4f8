use Rattle.std.proofs.Common.{◌≡◌, map, take}
use Rattle.xls_data.specs.Data.{content_of}
use Rattle.xls_csv.specs.Fields.{field}
use Rattle.xls_csv.proofs.export.fill.Given as goal

-- the fields of the values so far
abbrev pub invariant-loop-value : goal.invariant-loop-value
invariant-loop-value l = l.fields ≡ map field (map content_of (take l.value-index l.row))
