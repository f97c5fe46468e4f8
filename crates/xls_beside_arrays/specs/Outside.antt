-- What the formulas of a sheet cite of other workbooks and programs, as items.
use Rattle.std.specs.Prelude.{ℕ, List, drop, map, encode_utf8_all, Option, Some, None}
use Rattle.std.specs.List.{fold}
use Rattle.xls_other_books.specs.Formulas.{Outside, outside_of}
use Rattle.xls_other_books.specs.Links.{Links, links_of}
use Rattle.xls_other_books.specs.Outside.{Cited}
use Rattle.xls_open.specs.Globals.{State}
use Rattle.xls_parts.specs.PartRecords.{globals_records, own_records}
use Rattle.xls_beside.specs.declared.parts.SheetPart.{SheetPart}
use Rattle.xls_arrays.specs.declared.faults.Fault.{Fault}
use Rattle.xls_arrays.specs.declared.items.Span.{Span}
use Rattle.xls_arrays.specs.declared.options.Options.{Options}
use Rattle.xls_beside_arrays.specs.Answers.{FillsUndamaged}
use Rattle.xls_beside_arrays.specs.Arrays.{Arrays, with_three}
use Rattle.xls_beside_arrays.specs.Opened.{IsOfSheet, RefusesSheet}
use Rattle.xls_beside_arrays.specs.declared.items.Counts.{Counts}
use Rattle.xls_beside_arrays.specs.declared.items.OutsideItem.{OutsideItem}

abbrev pub outside_item : ℕ → ℕ → Span → Span → Span → OutsideItem
outside_item row column book sheet name = record { row = row; column = column; book = book; sheet = sheet; name = name }

-- something that the formula of a cell cites
abbrev pub with_cited : ℕ → ℕ → Arrays OutsideItem → Cited → Arrays OutsideItem
with_cited row column a c =
    with_three (outside_item row column) (encode_utf8_all c.book) (encode_utf8_all c.sheet) (encode_utf8_all c.name) a

-- all that a formula cites, if there is one
abbrev pub with_outside : Arrays OutsideItem → Option Outside → Arrays OutsideItem
with_outside a None = a
with_outside a (Some o) = fold (with_cited o.row o.column) a o.cited

-- what the formula of each record in a part of the stream cites of what is linked
abbrev pub cited_in : Links → List ℕ → SheetPart → List (Option Outside)
cited_in links stream part = map (outside_of links) (own_records part.offset (drop part.offset stream))

abbrev pub outside_in : State → List ℕ → SheetPart → List (Option Outside)
outside_in globals stream part = cited_in (links_of globals.version globals.page (globals_records stream)) stream part

abbrev pub AreOutside : Options → List ℕ → Arrays OutsideItem → Type 0
AreOutside = IsOfSheet with_outside outside_in

abbrev pub FillsOutside : Options → List ℕ → List OutsideItem → List ℕ → Counts → Fault → ℕ → Type 0
FillsOutside options stream = FillsUndamaged (AreOutside options stream) (RefusesSheet options stream)
