use Rattle.std.proofs.Common.{arith, inr}
use Rattle.std.proofs.lemmas.Result.{err_from_is_err_and}
use Rattle.xls_biff.specs.Walking.{group_of}
use Rattle.xls_lay.proofs.ReadLemmas.{faultless_carries, nothing_read, group_small, group_fits, whole_item, read_more, read_refused, read_uncut, read_eof, read_end}
use Rattle.xls_lay.proofs.read.logical_of.Goals as goal

pub loop-record-init : goal.loop-record-init
loop-record-init c = (
  tt,
  tt,
  rw (c.into_iter-record-iterator.ensures.into_iter_gives, c.new-list.ensures) (rw c.new-record-items.ensures
      (nothing_read c.args.bytes.now (λ i. omega (arith, c.type_inv.bytes i)))),
)

pub returns-in_err-record : goal.returns-in_err-record
returns-in_err-record c =
    let l = c.loop-record in
    let stream = c.args.bytes.now in
    let all = faultless_carries stream (λ i. omega (arith, c.type_inv.bytes i)) c.in_ok-check_stream.ensures in
    let steps = rw c.in_err-record.was at c.in-Some.ensures.steps in
    read_uncut stream l.record-iterator l.list all l.invariant.2 steps.0 steps.2

pub returns-then-record-eq-EOF : goal.returns-then-record-eq-EOF
returns-then-record-eq-EOF c =
    let l = c.loop-record in
    let stream = c.args.bytes.now in
    let all = faultless_carries stream (λ i. omega (arith, c.type_inv.bytes i)) c.in_ok-check_stream.ensures in
    let steps = rw c.in_ok-record.was at c.in-Some.ensures.steps in
    (c.in_ok-check_stream.ensures, read_eof stream l.record-iterator l.list all l.invariant.2 (group_of c.in_ok-record.record) c.next.new.self steps c.if-record-eq-EOF.true)

pub take_record-requires-clause-small : goal.take_record-requires-clause-small
take_record-requires-clause-small c =
    let l = c.loop-record in
    let stream = c.args.bytes.now in
    let all = faultless_carries stream (λ i. omega (arith, c.type_inv.bytes i)) c.in_ok-check_stream.ensures in
    let steps = rw c.in_ok-record.was at c.in-Some.ensures.steps in
    group_small stream l.record-iterator c.next.new.self l.list all l.invariant.2 (group_of c.in_ok-record.record) steps c.if-record-eq-EOF.false c.requires

pub take_record-requires-clause-bytes : goal.take_record-requires-clause-bytes
take_record-requires-clause-bytes c =
    let l = c.loop-record in
    let stream = c.args.bytes.now in
    let all = faultless_carries stream (λ i. omega (arith, c.type_inv.bytes i)) c.in_ok-check_stream.ensures in
    let steps = rw c.in_ok-record.was at c.in-Some.ensures.steps in
    group_fits stream l.record-iterator c.next.new.self l.list all l.invariant.2 (group_of c.in_ok-record.record) steps c.if-record-eq-EOF.false

pub take_record-requires-clause-fits : goal.take_record-requires-clause-fits
take_record-requires-clause-fits c =
    let steps = rw c.in_ok-record.was at c.in-Some.ensures.steps in
    steps.fits.body

pub take_record-requires-clause-whole : goal.take_record-requires-clause-whole
take_record-requires-clause-whole c =
    let l = c.loop-record in
    let stream = c.args.bytes.now in
    let all = faultless_carries stream (λ i. omega (arith, c.type_inv.bytes i)) c.in_ok-check_stream.ensures in
    let steps = rw c.in_ok-record.was at c.in-Some.ensures.steps in
    whole_item stream l.record-iterator c.next.new.self l.list all l.invariant.2 (group_of c.in_ok-record.record) steps c.if-record-eq-EOF.false

pub loop-record-preserved : goal.loop-record-preserved
loop-record-preserved c =
    let l = c.loop-record in
    let stream = c.args.bytes.now in
    let all = faultless_carries stream (λ i. omega (arith, c.type_inv.bytes i)) c.in_ok-check_stream.ensures in
    let steps = rw c.in_ok-record.was at c.in-Some.ensures.steps in (
      tt,
      tt,
      read_more stream l.record-iterator c.next.new.self l.list all l.invariant.2 (group_of c.in_ok-record.record) steps c.if-record-eq-EOF.false c.take_record.new.list c.in_ok-take_record.ensures.entry c.in_ok-take_record.ensures.other,
    )

pub returns-in_err-take_record : goal.returns-in_err-take_record
returns-in_err-take_record c =
    let l = c.loop-record in
    let stream = c.args.bytes.now in
    let all = faultless_carries stream (λ i. omega (arith, c.type_inv.bytes i)) c.in_ok-check_stream.ensures in
    let steps = rw c.in_ok-record.was at c.in-Some.ensures.steps in
    let p = err_from_is_err_and c.from_residual-in_err-take_record.result c.from_residual-in_err-take_record.ensures.1 in
    rw (p.1, p.2) (inr (
      read_refused stream l.record-iterator c.next.new.self l.list all l.invariant.2 (group_of c.in_ok-record.record) steps c.if-record-eq-EOF.false c.in_err-take_record.field-0.0 c.take_record.new.list c.in_err-take_record.ensures.entry c.in_err-take_record.ensures.other,
      c.in_ok-check_stream.ensures,
    ))

pub returns : goal.returns
returns c =
    let l = c.loop-record in
    let stream = c.args.bytes.now in
    let all = faultless_carries stream (λ i. omega (arith, c.type_inv.bytes i)) c.in_ok-check_stream.ensures in
    (c.in_ok-check_stream.ensures, read_end stream l.record-iterator l.list all l.invariant.2 c.in-None.ensures.steps.0)
