use Rattle.std.proofs.Common.{◌≡◌, ◌++◌}
use Rattle.std.specs.List.{flat_map}
use Rattle.std.specs.String.{string_bytes}
use Rattle.std.specs.Str.{chars}
use Rattle.example_formulas.specs.Lines.{formula_line}
use Rattle.example_formulas.proofs.listing.push_sheet.Given as goal

-- what is written, and the lines of the formulas that are left, are the whole
abbrev pub invariant-loop-row : goal.invariant-loop-row
invariant-loop-row l =
    (goal.iterator-loop-row).can_next l.row-iterator ×
    (goal.iterator-loop-row).is_finite l.row-iterator ×
    (string_bytes l.text ++ flat_map (formula_line (chars l.sheet)) l.row-iterator
    ≡ string_bytes l.fn.text ++ flat_map (formula_line (chars l.sheet)) l.fn.formulas)
