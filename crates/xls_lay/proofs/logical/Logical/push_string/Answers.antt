use Rattle.std.proofs.Common.{rules, ◌≡◌, suc, ◌-◌, length}
use Rattle.std.specs.Prelude.{vec_len}
use Rattle.xls_layouts.specs.Canonical.{FitsString}
use Rattle.xls_lay.proofs.PushLemmas.{are_units, string_pushed, string_pushed_fits}
use Rattle.xls_lay.proofs.logical.Logical.push_string.Goals as goal

pub invariant_of-self-2 : goal.invariant_of-self-2
invariant_of-self-2 c =
    let es = c.self.inside.entries.items in
    let i = vec_len c.self.inside.entries - 1 in
    let some : length es ≡ suc i = search rules in
    let f : FitsString c.args.units.now = record { count = c.requires.size; are_units = are_units c.args.units.now (λ k. (c.type_inv.units k).fits) } in
    string_pushed_fits es i some c.in-Some.entry.now c.in-Some.ensures.value c.push_string.new.self c.args.units.now c.args.self.now c.self.view_is c.requires.count c.self.invariant f c.in_ok-push_string.ensures.ok

pub returns-clause-ok : goal.returns-clause-ok
returns-clause-ok c =
    let es = c.self.inside.entries.items in
    let i = vec_len c.self.inside.entries - 1 in
    let some : length es ≡ suc i = search rules in
    string_pushed es i some c.in-Some.entry.now c.in-Some.ensures.value c.push_string.new.self c.args.units.now c.args.self.now c.self.view_is c.requires.table c.in_ok-push_string.ensures.ok
