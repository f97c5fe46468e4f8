use Rattle.std.proofs.Common.{◌≡◌, ◌<◌, ◌+◌, ◌-◌, List, ◌∙◌, ap, length, arith, codes, false}
use Rattle.std.specs.Str.{chars}
use Rattle.xls_formula_shown.specs.State.{Operand}
use Rattle.xls_formula_shown.specs.Steps.{joined, joins}
use Rattle.xls_formula_shown.proofs.PutLemmas.{length-joined, joins_step}
use Rattle.xls_formula_shown.proofs.puts.gather.Goals as goal

pub commas-preserved : goal.commas-preserved
unfolding chars
commas-preserved c =
    let lt : c.commas.i < c.args.count = omega arith in
    let some : 1 < length c.commas.stack = omega (arith, c.commas.invariant.1) in
    let n : length (joined false (codes ",") c.commas.stack) + 1 ≡ length c.commas.stack = length-joined false (codes ",") c.commas.stack some in
    let e : c.join.new.self ≡ joined false (codes ",") c.commas.stack = c.in_ok-join.ensures in
    let m : length c.join.new.self ≡ length (joined false (codes ",") c.commas.stack) = ap length e in (
      ap (λ (x : List Operand). joins (c.args.count - (c.commas.i + 1)) x) e ∙ (joins_step c.args.count c.commas.i c.commas.stack lt ∙ c.commas.invariant.0),
      omega (arith, n, m, c.commas.invariant.1),
    )
