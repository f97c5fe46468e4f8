use Rattle.std.proofs.Common.{map, take}
use Rattle.xls_styles.specs.Formats.{AreLast, format_view}
use Rattle.xls_styles.proofs.places.last_places.Given as goal

-- those of the formats so far
abbrev pub invariant-loop-k : goal.invariant-loop-k
invariant-loop-k l = AreLast (map format_view l.codes) (map format_view (take l.k l.codes)) l.places.items
