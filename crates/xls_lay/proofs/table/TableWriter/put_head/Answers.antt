use Rattle.std.proofs.Common.{◌≡◌, ◌+◌, ◌/◌, ◌%◌, ◌∙◌, ◌∷◌, [], ℕ, Some, arith, rules, subst, sym}
use Rattle.xls_layouts.specs.LaidStrings.{wide_bit}
use Rattle.xls_lay.specs.Putting.{Moves}
use Rattle.xls_lay.proofs.PutLemmas.{puts_within}
use Rattle.xls_lay.proofs.table.TableWriter.put_head.Goals as goal

pub returns-clause-puts : goal.returns-clause-puts
returns-clause-puts c =
    let bit : c.from.result ≡ wide_bit c.args.is_wide = search rules in
    let sum : wide_bit c.args.is_wide + 0 + 0 ≡ wide_bit c.args.is_wide = omega arith in
    let Head = λ (n : ℕ). Moves c.cut_before_head.new.self (Some (c.args.count % 256) ∷ Some (c.args.count / 256) ∷ Some n ∷ []) [] c.push.new.self in
    puts_within c.args.done.now.items c.cut_before_head.new.done.items c.args.self.now c.cut_before_head.new.self c.push.new.self _ _ c.in_ok-cut_before_head.ensures.puts
    (subst Head (bit ∙ sym sum) c.in_ok-push.ensures)
