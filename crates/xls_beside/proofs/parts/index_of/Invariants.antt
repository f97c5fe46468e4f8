use Rattle.std.proofs.Common.{List, length}
use Rattle.std.specs.BTreeMap.{get_by_text}
use Rattle.xls_record.specs.declared.version.Biff.{Biff}
use Rattle.xls_hidden.specs.FilterAreas.{AreAreas}
use Rattle.xls_parts.specs.PartRecords.{Placed}
use Rattle.xls_beside.proofs.PartLemmas.{HasPartsBefore}
use Rattle.xls_beside.proofs.parts.index_of.Given as goal

-- the parts of the sheets so far
abbrev pub invariant-loop-i : goal.invariant-loop-i
invariant-loop-i l =
    (version : Biff) (globals : List Placed) → AreAreas version globals (length l.listed) l.areas
    → HasPartsBefore (get_by_text l.index) version globals l.listed l.i
