use Rattle.std.proofs.Common.{◌≢◌, ◌+◌, ◌%◌, length, ◌∙◌, ap, refl, arith, below_more, get_or, get_or-set_other, get_or-set_same, length-set}
use Rattle.std.specs.List.{swap}
use Rattle.xls_passwords.specs.Rc4.{scheduled}
use Rattle.xls_passwords.proofs.Rc4Lemmas.{in_order, scheduled-step, wraps_once}
use Rattle.xls_passwords.proofs.rc4.Rc4.new.Goals as goal

pub bytes-preserved : goal.bytes-preserved
bytes-preserved c = record {
  len = length-set c.bytes.s c.bytes.i c.bytes.i ∙ c.bytes.invariant.len;
  ordered = below_more _ _
      (λ k h. let other : k ≢ c.bytes.i = omega arith in rw get_or-set_other (c.bytes.invariant.ordered k h))
      (get_or-set_same c.bytes.s c.bytes.i c.bytes.i 0 (omega arith));
}

pub steps-init : goal.steps-init
unfolding scheduled
steps-init c = record {
  s = in_order c.bytes.s c.bytes.invariant.len (λ k h. c.bytes.invariant.ordered k (omega arith));
  j = refl;
}

pub steps-preserved : goal.steps-preserved
steps-preserved c =
    let s = c.steps.s in
    let j = c.steps.j in
    let key = c.args.key.now in
    let byte = c.key_at.ensures in
    let wraps = ap (λ b. ((j + get_or s c.steps.i 0) % 256 + b) % 256) byte ∙ wraps_once j (get_or s c.steps.i 0) (get_or key (c.steps.i % length key) 0) in
    rw (scheduled-step key s c.steps.i j c.steps.invariant.s c.steps.invariant.j) (record {
      s = c.swap.ensures.after ∙ ap (swap s c.steps.i) (c.from.ensures ∙ wraps);
      j = wraps;
    })
