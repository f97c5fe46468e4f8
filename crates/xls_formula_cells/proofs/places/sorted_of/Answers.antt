use Rattle.std.proofs.Common.{◌∙◌, sym, ap, map, None, List, ℕ}
use Rattle.xls_range.specs.Positions.{Entry, cell_position}
use Rattle.xls_parts.specs.PartRecords.{own_records}
use Rattle.xls_style_cells.specs.Order.{ascends}
use Rattle.xls_style_cells.proofs.SettledLemmas.{passed, settled_same}
use Rattle.xls_formula_cells.specs.Formulas.{formulas_in}
use Rattle.xls_formula_cells.proofs.places.sorted_of.Goals as goal

pub returns-then-is_ascending-clause-order : goal.returns-then-is_ascending-clause-order
returns-then-is_ascending-clause-order c =
    let formulas = formulas_in (own_records c.args.offset c.args.part.now) in
    settled_same formulas (passed (map cell_position formulas)
    (ap (λ (es : List (Entry ℕ)). ascends None (map cell_position es)) (sym c.new.ensures) ∙ sym c.if-is_ascending.ensures))
