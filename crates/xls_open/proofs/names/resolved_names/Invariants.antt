use Rattle.std.proofs.Common.{◌≡◌, ◌++◌, map}
use Rattle.std.specs.Vec.Iter.{into_iter_items}
use Rattle.xls_formula.specs.Defined.{named_of}
use Rattle.xls_meaning.specs.Settings.{resolved_name}
use Rattle.xls_open.specs.Workbook.{name_texts}
use Rattle.xls_open.proofs.names.resolved_names.Given as goal

-- the names so far, and those that are left
abbrev pub invariant-loop-lbl : goal.invariant-loop-lbl
invariant-loop-lbl l =
    map name_texts l.reported.items ++ map (resolved_name l.sheets l.refs) (map named_of (into_iter_items l.lbl-iterator))
    ≡ map (resolved_name l.sheets l.refs) (map named_of l.fn.lbls.items)
