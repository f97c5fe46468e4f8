use Rattle.std.proofs.Common.{List}
use Rattle.xls_data.specs.Sheets.{SheetContent}
use Rattle.xls_open.specs.Globals.{listed_of}
use Rattle.xls_open.specs.declared.listed.Listed.{Listed}
use Rattle.xls_beside.specs.Parts.{IsPartIndex, lines_of_sheet}
use Rattle.xls_beside.specs.declared.parts.SheetPart.{SheetPart}
use Rattle.xls_beside.proofs.DamagedLemmas.{CountedFirst}
use Rattle.xls_beside.proofs.counting.damaged_of_sheets.Given as goal

-- what is damaged of the sheets so far is counted
abbrev pub invariant-loop-next : goal.invariant-loop-next
invariant-loop-next g l =
    (parts : List (SheetContent × SheetPart)) → IsPartIndex l.index parts
    → CountedFirst (λ (x : Listed). lines_of_sheet (g.T.Damages.lines l.things) parts (listed_of x).1) l.listed l.next-index l.count
