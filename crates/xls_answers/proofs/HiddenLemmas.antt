-- Cells that are counted one by one.
use Rattle.std.proofs.Common.{◌≡◌, ℕ, ◌+◌, List, [], add-zero, arith, ap, sym, ◌∙◌}
use Rattle.xls_hidden.specs.Hidden.{Hidden}
use Rattle.xls_hidden_cells.specs.Seen.{cells_hidden}
use Rattle.xls_view.specs.Formats.{FormattedCell}
use Rattle.xls_beside.specs.Damaged.{at_most_counted}

-- what is counted and what is left are together all
abbrev pub CountedSoFar : Hidden → List FormattedCell → ℕ → List FormattedCell → Type 0
CountedSoFar hidden all count left =
    at_most_counted (count + cells_hidden hidden left) ≡ at_most_counted (cells_hidden hidden all)

-- what was counted stays as it is
pub at_most_kept : (n m : ℕ) → n ≡ at_most_counted m → at_most_counted n ≡ n
at_most_kept n m e = grind (arith, e)

-- all are counted where none is left
pub all_counted : (hidden : Hidden) (all : List FormattedCell) (count : ℕ) (left : List FormattedCell) → left ≡ [] → at_most_counted count ≡ count
    → CountedSoFar hidden all count left → count ≡ at_most_counted (cells_hidden hidden all)
all_counted hidden all count left none same so =
    let here : at_most_counted (count + cells_hidden hidden left) ≡ at_most_counted count = ap (λ cells. at_most_counted (count + cells_hidden hidden cells)) none ∙ ap at_most_counted (add-zero count) in
    sym same ∙ sym here ∙ so
