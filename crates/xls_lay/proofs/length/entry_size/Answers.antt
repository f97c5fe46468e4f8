use Rattle.std.proofs.Common.{◌≡◌, ◌+◌, ◌∙◌, sym, ap, arith}
use Rattle.xls_lay.specs.Writing.{saturated}
use Rattle.xls_lay.specs.Entries.{entry_in}
use Rattle.xls_lay.specs.Cutting.{globals_size}
use Rattle.xls_layouts.specs.LaidStrings.{marks_of_strings}
use Rattle.xls_layouts.specs.Canonical.{canonical_strings}
use Rattle.xls_lay.specs.Cutting.{marks_size}
use Rattle.xls_lay.proofs.SizeLemmas.{length-table}
use Rattle.xls_lay.proofs.length.entry_size.Goals as goal

pub returns-in-Table : goal.returns-in-Table
returns-in-Table c =
    let strings = c.in-Table.strings in
    let sum : c.saturating_add-in-Table.result ≡ saturated (marks_size (marks_of_strings (canonical_strings 8 strings)) + 12) = omega (arith, c.saturating_add-in-Table.ensures, c.size.ensures) in
    sum ∙ ap saturated (sym (length-table strings)) ∙ ap (λ e. saturated (globals_size (entry_in e))) (sym c.in-Table.is)
