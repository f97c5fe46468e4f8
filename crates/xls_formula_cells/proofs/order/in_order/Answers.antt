use Rattle.std.proofs.Common.{◌≡◌, ◌++◌, ℕ, List, sym, ap, subst, ◌∙◌}
use Rattle.std.proofs.lemmas.List.{append-nil}
use Rattle.std.specs.List.{AllByRecursion}
use Rattle.xls_range.specs.Positions.{Entry, last_at}
use Rattle.xls_style_cells.proofs.SettledLemmas.{is_settled}
use Rattle.xls_formula_cells.specs.Held.{IsSmall}
use Rattle.xls_formula_cells.proofs.OrderLemmas.{all_settled}
use Rattle.xls_formula_cells.proofs.order.in_order.Goals as goal

pub returns-clause-order : goal.returns-clause-order
returns-clause-order c =
    let l = c.formulas in
    let all : l.found ≡ c.args.formulas =
    sym (append-nil l.found) ∙ ap (λ (es : List (Entry ℕ)). l.found ++ es) (sym c.in-None.ensures.steps.0) ∙ l.invariant.2 in
    is_settled c.args.formulas c.settled.result c.settled.ensures.ascending
    (λ p. c.settled.ensures.last p ∙ ap (λ (es : List (Entry ℕ)). last_at es p) all)

pub returns-clause-small : goal.returns-clause-small
returns-clause-small c =
    let found = c.formulas.found in
    subst (AllByRecursion IsSmall) (sym (is_settled found c.settled.result c.settled.ensures.ascending c.settled.ensures.last))
    (all_settled IsSmall found c.formulas.invariant.3)
