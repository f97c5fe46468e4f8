use Rattle.std.proofs.Common.{arith}
use Rattle.std.proofs.lemmas.Result.{err_from_is_err_and}
use Rattle.xls_biff.specs.SheetTable.{stands_for}
use Rattle.xls_biff.specs.Walking.{group_of}
use Rattle.xls_open.specs.CheckSteps.{under}
use Rattle.xls_open.proofs.CheckPartLemmas.{part_nothing, part_more, record_refused, weight_refused, part_cut, part_end}
use Rattle.xls_open.proofs.check.sheets.check_part.Goals as goal

pub loop-record-init : goal.loop-record-init
loop-record-init c = (
  tt,
  tt,
  rw c.into_iter-record-iterator.ensures.into_iter_gives (rw c.new-record-items.ensures
      (λ s e. part_nothing c.args.part.now (under c.args.rules) s (λ i. omega (arith, c.type_inv.part i)))),
)

-- the part is cut
pub returns-in_err-record : goal.returns-in_err-record
returns-in_err-record c = λ s e.
    let l = c.loop-record in
    let p = err_from_is_err_and c.from_residual.result c.from_residual.ensures.1 in
    let steps = rw c.in_err-record.was at c.in-Some.ensures.steps in
    rw (p.1, p.2) (part_cut c.args.part.now l.record-iterator.0 l.record-iterator.1 (under c.args.rules) s l.room (l.invariant.2 s e) c.in_err-record.field-0.0 steps.0)

-- a record's own fault
pub returns-in_err-read : goal.returns-in_err-read
returns-in_err-read c = λ s e.
    let l = c.loop-record in
    let p = err_from_is_err_and c.from_residual-in_err-read.result c.from_residual-in_err-read.ensures.1 in
    let steps = rw c.in_ok-record.was at c.in-Some.ensures.steps in
    rw (p.1, p.2) (record_refused c.args.part.now l.record-iterator.0 c.next.new.self.0 l.record-iterator.1 c.next.new.self.1 (under c.args.rules) s l.room (group_of c.in_ok-record.record) (l.invariant.2 s e) steps c.in_err-read.field-0.0 (c.in_err-read.ensures.exact s.cells e))

-- too many cells
pub returns-in_err-room : goal.returns-in_err-room
returns-in_err-room c = λ s e.
    let l = c.loop-record in
    let p = err_from_is_err_and c.from_residual-in_err-room.result c.from_residual-in_err-room.ensures.1 in
    let steps = rw c.in_ok-record.was at c.in-Some.ensures.steps in
    let weighs = rw (c.weight.ensures s.cells) at c.in_err-room.ensures in
    rw (p.1, p.2) (weight_refused c.args.part.now l.record-iterator.0 c.next.new.self.0 l.record-iterator.1 c.next.new.self.1 (under c.args.rules) s l.room (group_of c.in_ok-record.record) (l.invariant.2 s e) steps c.in_err-room.field-0.0 (stands_for s.cells c.in_ok-read.read) (c.in_ok-read.ensures.exact s.cells e) weighs)

pub loop-record-preserved : goal.loop-record-preserved
loop-record-preserved c =
    let l = c.loop-record in
    let steps = rw c.in_ok-record.was at c.in-Some.ensures.steps in (
      tt,
      tt,
      λ s e.
          let weighs = rw (c.weight.ensures s.cells) at c.in_ok-room.ensures in
          part_more c.args.part.now l.record-iterator.0 c.next.new.self.0 l.record-iterator.1 c.next.new.self.1 (under c.args.rules) s l.room (group_of c.in_ok-record.record) (l.invariant.2 s e) steps c.in_ok-room.room (stands_for s.cells c.in_ok-read.read) (c.in_ok-read.ensures.exact s.cells e) weighs,
    )

pub returns : goal.returns
returns c = λ s e.
    let l = c.loop-record in
    part_end c.args.part.now l.record-iterator.0 l.record-iterator.1 (under c.args.rules) s l.room (l.invariant.2 s e) c.in-None.ensures.steps.0
