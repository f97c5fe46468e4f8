use Rattle.std.proofs.Common.{arith}
use Rattle.std.specs.Str.{chars}
use Rattle.xls_formula_names.proofs.QuoteLemmas.{cell_above}
use Rattle.xls_formula_names.proofs.quotes.is_cell.Goals as goal

pub returns-then-column-gt256 : goal.returns-then-column-gt256
returns-then-column-gt256 c =
    let above = cell_above _ (chars c.in-Some.rest.now) c.if-column-gt256.true in
    let all = c.letters.invariant.cell in
    let first = c.in-Some.ensures.exact in
    grind (arith, above, all, first, c.if-not-is_ascii_alphabetic.false, c.is_ascii_alphabetic.ensures.value, c.to_ascii_uppercase.ensures.value)
