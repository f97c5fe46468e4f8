use Rattle.std.proofs.Common.{◌≡◌, ℕ, List, take}
use Rattle.std.specs.BTreeMap.{get_by_text}
use Rattle.xls_view.specs.Index.{last_place}
use Rattle.xls_view.proofs.index.index_of.Given as goal

-- the places of the sheets so far
abbrev pub invariant-loop-i : goal.invariant-loop-i
invariant-loop-i l = (name : List ℕ) → get_by_text l.index name ≡ last_place (take l.i l.sheets) name
