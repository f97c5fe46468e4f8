use Rattle.std.specs.BTreeMap.{get}
use Rattle.std.specs.Ordering.{nat_cmp}
use Rattle.xls_parts.specs.PartRecords.{own_records}
use Rattle.xls_comments.specs.Walking.{AreKnown, AreLast, text_at}
use Rattle.xls_comments.proofs.objects.read_places.Given as goal

abbrev pub invariant-records : goal.invariant-records
invariant-records l =
    AreKnown (text_at l.offset l.part) (own_records l.offset l.part) l.r-iterator l.objects.last (get nat_cmp l.objects.places)
    × AreLast l.offset l.part l.r-iterator
