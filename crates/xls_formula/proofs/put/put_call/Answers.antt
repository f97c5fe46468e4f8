use Rattle.std.proofs.Common.{◌≡◌, ◌<◌, ℕ, ◌+◌, ◌-◌, List, ◌∙◌, ap, length, arith}
use Rattle.std.specs.Prelude.{codes}
use Rattle.std.specs.Str.{chars}
use Rattle.xls_operands.specs.Pieces.{with_join}
use Rattle.xls_formula.specs.buffer.Put.{with_joins}
use Rattle.xls_formula.proofs.PutLemmas.{length-with_join, joins_step}
use Rattle.xls_formula.proofs.put.put_call.Goals as goal

pub commas-preserved : goal.commas-preserved
unfolding chars
commas-preserved c =
    let lt : c.commas.i < c.args.count = omega arith in
    let some : 1 < length c.commas.texts = omega (arith, c.commas.invariant.1) in
    let n : length (with_join (codes ",") c.commas.texts) + 1 ≡ length c.commas.texts = length-with_join (codes ",") c.commas.texts some in
    let e : c.join.new.self ≡ with_join (codes ",") c.commas.texts = c.in_ok-join.ensures in
    let m : length c.join.new.self ≡ length (with_join (codes ",") c.commas.texts) = ap length e in (
      ap (λ (x : List (List ℕ)). with_joins (c.args.count - (c.commas.i + 1)) x) e ∙ (joins_step c.args.count c.commas.i c.commas.texts lt ∙ c.commas.invariant.0),
      omega (arith, n, m, c.commas.invariant.1),
    )
