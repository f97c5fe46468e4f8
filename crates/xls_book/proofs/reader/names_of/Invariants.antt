use Rattle.std.proofs.Common.{◌≡◌, map, take}
use Rattle.xls_data.specs.Sheets.{SheetContent, sheet_content}
use Rattle.xls_strings.specs.Texts.{text_of}
use Rattle.xls_book.proofs.reader.names_of.Given as goal

-- the names of the sheets so far
abbrev pub invariant-loop-sheet : goal.invariant-loop-sheet
invariant-loop-sheet l =
    map text_of l.names.items ≡ map (λ (s : SheetContent). s.name) (map sheet_content (take l.sheet-index l.sheets))
