use Rattle.std.proofs.Common.{◌++◌, List, ap, ◌∙◌}
use Rattle.std.specs.Str.{chars}
use Rattle.xls_formula.specs.Functions.{Function}
use Rattle.xls_formula.proofs.push.all_functions.Goals as goal

-- the shipped functions, and behind them those of the table
pub returns : goal.returns
unfolding chars
returns c =
    c.in_ok-push_all.ensures ∙ ap (λ (t : List Function). t ++ _) c.in_ok-table.ensures
