use Rattle.std.proofs.Common.{arith}
use Rattle.xls_biff.specs.Walking.{group_of}
use Rattle.xls_lay.proofs.PartReadLemmas.{part_none, part_more, part_all, part_uncut, keeps_fits}
use Rattle.xls_lay.proofs.read.take_part.Goals as goal

pub loop-record-init : goal.loop-record-init
loop-record-init c = (
  tt,
  tt,
  rw c.into_iter-record-iterator.ensures.into_iter_gives (rw c.new-record-items.ensures
      (part_none c.args.list.now c.args.part.now c.requires (λ i. omega (arith, c.type_inv.part i)))),
)

-- the part is cut
pub returns-in_err-record : goal.returns-in_err-record
returns-in_err-record c = λ kept h.
    let l = c.loop-record in
    let steps = rw c.in_err-record.was at c.in-Some.ensures.steps in
    part_uncut c.args.list.now l.list c.args.part.now l.record-iterator.0 l.record-iterator.1 l.invariant.2 c.in_err-record.field-0.0 steps.0 kept h

pub loop-record-preserved : goal.loop-record-preserved
loop-record-preserved c =
    let l = c.loop-record in
    let steps = rw c.in_ok-record.was at c.in-Some.ensures.steps in (
      tt,
      tt,
      part_more c.args.list.now l.list c.args.part.now l.record-iterator.0 l.record-iterator.1 l.invariant.2 c.next.new.self.0 c.next.new.self.1 (group_of c.in_ok-record.record) c.push_kept.new.self steps c.in_ok-push_kept.ensures.ok,
    )

pub returns : goal.returns
returns c = λ kept h.
    let l = c.loop-record in
    part_all c.args.list.now l.list c.args.part.now l.record-iterator.0 l.record-iterator.1 l.invariant.2 c.in-None.ensures.steps.0 kept h

pub push_kept-requires-clause-size : goal.push_kept-requires-clause-size
push_kept-requires-clause-size c =
    let l = c.loop-record in
    let steps = rw c.in_ok-record.was at c.in-Some.ensures.steps in
    keeps_fits l.record-iterator.0 c.next.new.self.0 l.record-iterator.1 c.next.new.self.1 (group_of c.in_ok-record.record) steps
