use Rattle.std.proofs.Common.{length, sym, subst}
use Rattle.std.specs.Str.{chars}
use Rattle.xls_shown_fractions.proofs.RoleLemmas.{IsWithin, within_more, within_small, spot_more}
use Rattle.xls_shown_fractions.proofs.needs.spot_all.Goals as goal

pub items-preserved : goal.items-preserved
items-preserved c = record {
  all = spot_more c.items.spot c.spot_after-spot.result _ (c.in-Some.item, chars c.in-Some.field-0-1.now) c.next.new.self c.items.items c.in-Some.ensures.steps c.spot_after-spot.ensures c.items.invariant.all;
  within = subst (λ s. IsWithin s (length c.next.new.self) (length c.args.section.now)) (sym c.spot_after-spot.ensures)
      (within_more c.items.spot (c.in-Some.item, chars c.in-Some.field-0-1.now) _ _ _ c.in-Some.ensures.steps c.items.invariant.within);
}

pub spot_after-spot-requires-clause-placed : goal.spot_after-spot-requires-clause-placed
spot_after-spot-requires-clause-placed c =
    (within_small c.items.spot _ _ _ _ c.in-Some.ensures.steps c.items.invariant.within c.iter-items.ensures.few).0

pub spot_after-spot-requires-clause-run : goal.spot_after-spot-requires-clause-run
spot_after-spot-requires-clause-run c =
    (within_small c.items.spot _ _ _ _ c.in-Some.ensures.steps c.items.invariant.within c.iter-items.ensures.few).1
