use Rattle.std.proofs.Common.{rules, ◌≡◌, suc, ◌-◌, length}
use Rattle.std.specs.Prelude.{vec_len}
use Rattle.xls_layouts.specs.Canonical.{FitsKept}
use Rattle.xls_lay.proofs.PushLemmas.{one_kept, are_bytes, kept_pushed, kept_pushed_fits}
use Rattle.xls_lay.proofs.logical.Logical.push_kept.Goals as goal

pub invariant_of-self-2 : goal.invariant_of-self-2
invariant_of-self-2 c =
    let es = c.self.inside.entries.items in
    let i = vec_len c.self.inside.entries - 1 in
    let some : length es ≡ suc i = search rules in
    let f : FitsKept (one_kept c.args.typ c.args.body.now) = record {
      is_kept = c.requires.typ;
      fits = (c.requires.size, are_bytes c.args.body.now (λ k. (c.type_inv.body k).fits));
    } in
    kept_pushed_fits es i some c.in-Some.entry.now c.in-Some.ensures.value c.push_kept.new.self c.args.typ c.args.body.now c.self.invariant f c.in_ok-push_kept.ensures.ok

pub returns-clause-ok : goal.returns-clause-ok
returns-clause-ok c =
    let es = c.self.inside.entries.items in
    let i = vec_len c.self.inside.entries - 1 in
    let some : length es ≡ suc i = search rules in
    kept_pushed es i some c.in-Some.entry.now c.in-Some.ensures.value c.push_kept.new.self c.args.typ c.args.body.now c.args.self.now c.self.view_is c.requires.sheet c.in_ok-push_kept.ensures.ok
