use Rattle.std.proofs.Common.{◌≡◌, ◌++◌, map}
use Rattle.std.specs.Vec.Iter.{into_iter_items}
use Rattle.xls_strings.specs.Texts.{text_of}
use Rattle.xls_other_books.proofs.sheet_refs.add_sheets.Given as goal

-- those that are there and those that are left
abbrev pub invariant-sheets : goal.invariant-sheets
invariant-sheets l = map text_of l.sheets.items ++ map text_of (into_iter_items l.sheet-iterator) ≡ map text_of l.fn.sheets.items ++ map text_of l.fn.more.items
