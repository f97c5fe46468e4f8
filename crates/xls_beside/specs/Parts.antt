-- The lines of the sheets of a workbook, each with those of its part of the stream.
use Rattle.std.specs.Prelude.{◌≡◌, ℕ, ◌+◌, List, [], ◌∷◌, Option, Some, None, String}
use Rattle.std.specs.List.{flat_map}
use Rattle.std.specs.BTreeMap.{BTreeMap, get_by_text}
use Rattle.std.specs.Str.{chars, IsUtf8}
use Rattle.xls_data.specs.Sheets.{SheetContent}
use Rattle.xls_record.specs.declared.version.Biff.{Biff}
use Rattle.xls_hidden.specs.FilterAreas.{first_area}
use Rattle.xls_parts.specs.PartRecords.{Placed, globals_records}
use Rattle.xls_meaning.specs.Reading.{last_named}
use Rattle.xls_open.specs.Globals.{Sheets}
use Rattle.xls_beside.specs.declared.parts.SheetPart.{SheetPart}
use Rattle.xls_beside.specs.Lines.{Line, sheet}

-- each sheet with the offset of its part and the area of its filter, where the first has this index from 0
abbrev pub parts_from : Biff → List Placed → ℕ → Sheets → List (SheetContent × SheetPart)
parts_from version globals n [] = []
parts_from version globals n (q ∷ qs) =
    (q.1, record { offset = q.0; area = first_area version n globals }) ∷ parts_from version globals (n + 1) qs

abbrev pub parts_of : Biff → Sheets → List ℕ → List (SheetContent × SheetPart)
parts_of version sheets stream = parts_from version (globals_records stream) 0 sheets

-- the lines of a part, if there is one
abbrev pub lines_if : (SheetPart → List Line) → Option SheetPart → List Line
lines_if part_lines None = []
lines_if part_lines (Some part) = part_lines part

-- the line of a sheet, and then those of the part of the last sheet of its name
abbrev pub lines_of_sheet : (SheetPart → List Line) → List (SheetContent × SheetPart) → SheetContent → List Line
lines_of_sheet part_lines parts s = sheet s ∷ lines_if part_lines (last_named parts s.name)

-- those of the sheets in workbook order, which the globals list with their offsets
abbrev pub sheet_lines : (SheetPart → List Line) → List (SheetContent × SheetPart) → Sheets → List Line
sheet_lines part_lines parts sheets = flat_map (λ (q : ℕ × SheetContent). lines_of_sheet part_lines parts q.1) sheets

-- ---- for the contracts of one step

-- the map has for each name the part of its last sheet
abbrev pub IsPartIndex : {Y : Type 0} → BTreeMap (String Y) SheetPart → List (SheetContent × SheetPart) → Type 0
IsPartIndex m parts = (name : List ℕ) → IsUtf8 name → get_by_text m name ≡ last_named parts (chars name)
