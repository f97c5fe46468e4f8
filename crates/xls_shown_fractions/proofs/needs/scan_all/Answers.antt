use Rattle.std.proofs.Common.{length, sym, subst, ap}
use Rattle.std.specs.Str.{chars}
use Rattle.xls_number_formats.specs.Grammar.{Token}
use Rattle.xls_shown_fractions.proofs.RoleLemmas.{IsWithin, within_more, within_small, counted_more, counted_small, scan_more}
use Rattle.xls_shown_fractions.proofs.needs.scan_all.Goals as goal

pub items-preserved : goal.items-preserved
items-preserved c =
    let t : Token = (c.in-Some.item, chars c.in-Some.own.now) in
    record {
      all = scan_more c.items.scan c.scanned-scan.result _ c.args.whole c.items.spot c.spot_after-spot.result t c.next.new.self c.items.items c.in-Some.ensures.steps
          c.scanned-scan.ensures.exact c.spot_after-spot.ensures c.items.invariant.all;
      within = subst (λ s. IsWithin s (length c.next.new.self) (length c.args.section.now)) (sym c.spot_after-spot.ensures)
          (within_more c.items.spot t _ _ _ c.in-Some.ensures.steps c.items.invariant.within);
      places = counted_more _ c.items.scan.places _ _ _ _ _ c.in-Some.ensures.steps (ap (λ s. s.places) c.scanned-scan.ensures.exact) c.items.invariant.places;
      zeros = counted_more _ c.items.scan.zeros _ _ _ _ _ c.in-Some.ensures.steps (ap (λ s. s.zeros) c.scanned-scan.ensures.exact) c.items.invariant.zeros;
      spelled = c.scanned-scan.ensures.spelled;
    }

pub spot_after-spot-requires-clause-placed : goal.spot_after-spot-requires-clause-placed
spot_after-spot-requires-clause-placed c =
    (within_small c.items.spot _ _ _ _ c.in-Some.ensures.steps c.items.invariant.within c.iter-items.ensures.few).0

pub spot_after-spot-requires-clause-run : goal.spot_after-spot-requires-clause-run
spot_after-spot-requires-clause-run c =
    (within_small c.items.spot _ _ _ _ c.in-Some.ensures.steps c.items.invariant.within c.iter-items.ensures.few).1

pub scanned-scan-requires-clause-placed : goal.scanned-scan-requires-clause-placed
scanned-scan-requires-clause-placed c =
    (within_small c.items.spot _ _ _ _ c.in-Some.ensures.steps c.items.invariant.within c.iter-items.ensures.few).0

pub scanned-scan-requires-clause-places : goal.scanned-scan-requires-clause-places
scanned-scan-requires-clause-places c =
    counted_small c.items.scan.places _ _ _ _ c.in-Some.ensures.steps c.items.invariant.places c.iter-items.ensures.few

pub scanned-scan-requires-clause-zeros : goal.scanned-scan-requires-clause-zeros
scanned-scan-requires-clause-zeros c =
    counted_small c.items.scan.zeros _ _ _ _ c.in-Some.ensures.steps c.items.invariant.zeros c.iter-items.ensures.few

pub scanned-scan-requires-clause-spelled : goal.scanned-scan-requires-clause-spelled
scanned-scan-requires-clause-spelled c = c.items.invariant.spelled
