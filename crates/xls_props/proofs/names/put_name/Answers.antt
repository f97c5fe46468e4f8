use Rattle.std.proofs.Common.{◌≡◌, ℕ, Some, cond, arith}
use Rattle.std.specs.Prelude.{◌==◌}
use Rattle.std.specs.Ordering.{nat_cmp}
use Rattle.std.specs.BTreeMap.{get}
use Rattle.std.proofs.lemmas.Grind.{common_steps}
use Rattle.xls_props.proofs.NameLemmas.{names_put}
use Rattle.xls_props.proofs.names.put_name.Goals as goal

pub returns : goal.returns
returns c =
    let sets : (q : ℕ) → get nat_cmp c.insert.new.self q ≡ cond (c.args.number == q) (Some c.args.text) (get nat_cmp c.args.names.now q) =
    λ q. grind (arith, common_steps) in
    names_put c.args.names.now c.insert.new.self c.args.number c.args.text sets
