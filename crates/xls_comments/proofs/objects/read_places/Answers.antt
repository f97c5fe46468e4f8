use Rattle.std.proofs.Common.{List, subst}
use Rattle.std.specs.BTreeMap.{get}
use Rattle.std.specs.Ordering.{nat_cmp}
use Rattle.xls_parts.specs.PartRecords.{Placed, own_records, placed_of}
use Rattle.xls_comments.specs.Walking.{AreKnown, text_at}
use Rattle.xls_comments.proofs.ObjectLemmas.{all_known}
use Rattle.xls_comments.proofs.LastLemmas.{step_last}
use Rattle.xls_comments.proofs.objects.read_places.Goals as goal

pub records-preserved : goal.records-preserved
records-preserved c =
    let l = c.records in
    let at = text_at c.args.offset c.args.part.now in
    let all = own_records c.args.offset c.args.part.now in
    let r = placed_of c.in-Some.r in
    let rs = c.next.new.self in
    let step = step_last c.args.offset c.args.part.now l.r-iterator rs r c.in-Some.ensures.steps l.invariant.1 in (
      c.in_ok-take.ensures at all rs step.1 (subst (λ (before : List Placed). AreKnown at all before l.objects.last (get nat_cmp l.objects.places)) c.in-Some.ensures.steps l.invariant.0),
      step.0,
    )

pub returns : goal.returns
returns c = all_known (text_at c.args.offset c.args.part.now) (own_records c.args.offset c.args.part.now) c.records.r-iterator c.records.objects.last (get nat_cmp c.records.objects.places) c.in-None.ensures.steps.0 c.records.invariant.0
