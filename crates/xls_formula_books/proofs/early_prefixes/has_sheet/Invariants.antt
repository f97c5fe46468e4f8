use Rattle.std.proofs.Common.{◌≡◌, ◌-◌, drop}
use Rattle.std.specs.List.{list_any}
use Rattle.std.specs.Str.{bytes_eq, chars}
use Rattle.xls_formula_books.proofs.early_prefixes.has_sheet.Given as goal

-- one of those that are left has the name where one of all does
abbrev pub invariant-sheets : goal.invariant-sheets
invariant-sheets l = list_any (bytes_eq (chars l.name)) (drop l.number l.sheets) ≡ list_any (bytes_eq (chars l.name)) l.sheets

abbrev pub decreases-sheets : goal.decreases-sheets
decreases-sheets l = l.count - l.number
