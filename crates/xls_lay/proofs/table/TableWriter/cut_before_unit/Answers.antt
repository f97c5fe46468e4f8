use Rattle.std.proofs.Common.{rules, ◌≡◌, subst, ℕ, ◌+◌, ◌<◌, length, Some, [], ◌∷◌}
use Rattle.xls_layouts.specs.LaidStrings.{wide_bit}
use Rattle.xls_layouts.specs.Canonical.{unit_size}
use Rattle.xls_lay.specs.Putting.{Moves}
use Rattle.xls_lay.proofs.PutLemmas.{unit_cut}
use Rattle.xls_lay.proofs.table.TableWriter.cut_before_unit.Goals as goal

pub returns-clause-puts : goal.returns-clause-puts
returns-clause-puts c =
    let over : 8224 < length c.args.self.now.body.items + unit_size c.args.is_wide = search rules in
    let bit : c.from.result ≡ wide_bit c.args.is_wide = search rules in
    unit_cut c.args.done.now.items c.cut.new.done.items c.args.self.now c.cut.new.self c.push.new.self c.args.is_wide over c.in_ok-cut.ensures
    (subst (λ (n : ℕ). Moves c.cut.new.self (Some n ∷ []) [] c.push.new.self) bit c.in_ok-push.ensures)
