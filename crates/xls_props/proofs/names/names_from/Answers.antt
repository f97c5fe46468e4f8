use Rattle.std.proofs.Common.{rules, ◌≡◌, ◌++◌, ◌∷◌, [], Some, None, arith, ◌-◌, List, subst, refl}
use Rattle.std.proofs.lemmas.Grind.{common_steps}
use Rattle.xls_props.specs.Names.{Name, name_view, name_at, HasNames}
use Rattle.xls_props.proofs.NameLemmas.{names_more, names_end}
use Rattle.xls_props.proofs.names.names_from.Goals as goal

pub names-init : goal.names-init
names-init c = ([], λ number. search rules, grind (arith, common_steps))

pub returns-in_default : goal.returns-in_default
returns-in_default c =
    let none : name_at c.args.page c.names.rest.now ≡ None = search rules in
    subst (λ (ns : List Name). HasNames c.names.names ns) (names_end c.names.invariant.0 _ c.args.page (c.args.count - c.names.counter) c.names.rest.now none c.names.invariant.2) c.names.invariant.1

pub names-preserved : goal.names-preserved
names-preserved c =
    let step : name_at c.args.page c.names.rest.now ≡ Some (name_view c.in-Some.name, c.in-Some.after.now) = search rules in (
      c.names.invariant.0 ++ name_view c.in-Some.name ∷ [],
      c.in_ok-put_name.ensures c.names.invariant.0 c.names.invariant.1,
      names_more c.names.invariant.0 _ _ c.args.page c.args.count c.names.counter c.names.rest.now c.in-Some.after.now (name_view c.in-Some.name) (omega arith) step refl c.names.invariant.2,
    )
