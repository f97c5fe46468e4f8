use Rattle.std.proofs.Common.{List, take}
use Rattle.std.specs.List.{flat_map}
use Rattle.xls_data.specs.Sheets.{SheetContent}
use Rattle.xls_open.specs.Globals.{listed_of}
use Rattle.xls_open.specs.declared.listed.Listed.{Listed}
use Rattle.xls_output.specs.Each.{GathersEach, text_output}
use Rattle.xls_beside.specs.Parts.{IsPartIndex, lines_of_sheet}
use Rattle.xls_beside.specs.Lines.{IsLineText}
use Rattle.xls_beside.specs.declared.parts.SheetPart.{SheetPart}
use Rattle.xls_beside.proofs.sheets.put_sheets.Given as goal

-- the lines of the sheets so far are put
abbrev pub invariant-loop-next : goal.invariant-loop-next
invariant-loop-next g l =
    (parts : List (SheetContent × SheetPart)) → IsPartIndex l.index parts
    → GathersEach (IsLineText l.form)
    (flat_map (λ (x : Listed). lines_of_sheet (g.T.Tells.lines l.things) parts (listed_of x).1) (take l.next-index l.listed))
    (text_output g.K.Sink.state l.fn.out) (text_output g.K.Sink.state l.out)
