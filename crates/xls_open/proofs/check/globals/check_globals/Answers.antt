use Rattle.std.proofs.Common.{arith, subst, Err}
use Rattle.std.proofs.lemmas.Result.{err_from_is_err_and}
use Rattle.xls_biff.specs.Walking.{group_of}
use Rattle.xls_open.specs.CheckSteps.{under}
use Rattle.xls_open.proofs.GlobalsLemmas.{IsRecordRead, checked_nothing, checked_more, record_refused, globals_cut, globals_eof, globals_end, are_checked}
use Rattle.xls_open.proofs.check.globals.check_globals.Goals as goal

pub loop-record-init : goal.loop-record-init
loop-record-init c = (
  tt,
  tt,
  rw c.into_iter-record-iterator.ensures.into_iter_gives (rw c.new-record-items.ensures
      (checked_nothing (under c.args.rules) c.args.stream.now (λ i. omega (arith, c.type_inv.stream i)))),
)

pub returns-in_err-record : goal.returns-in_err-record
returns-in_err-record c =
    let l = c.loop-record in
    let p = err_from_is_err_and c.from_residual.result c.from_residual.ensures.1 in
    let steps = rw c.in_err-record.was at c.in-Some.ensures.steps in
    rw (p.1, p.2) (globals_cut (under c.args.rules) c.args.stream.now l.record-iterator l.invariant.2.state l.invariant.2.so_far c.in_err-record.field-0.0 steps.0 steps.1 steps.2)

pub returns-then-record-eq-EOF : goal.returns-then-record-eq-EOF
returns-then-record-eq-EOF c =
    let l = c.loop-record in
    let s = l.invariant.2 in
    let steps = rw c.in_ok-record.was at c.in-Some.ensures.steps in
    are_checked (under c.args.rules) c.args.stream.now l.biff s.state s.version_is
    (globals_eof (under c.args.rules) c.args.stream.now l.record-iterator s.state s.so_far (group_of c.in_ok-record.record) c.next.new.self steps c.if-record-eq-EOF.true)

pub loop-record-preserved : goal.loop-record-preserved
loop-record-preserved c =
    let l = c.loop-record in
    let steps = rw c.in_ok-record.was at c.in-Some.ensures.steps in (
      tt,
      tt,
      rw c.version_after-biff.ensures (checked_more (under c.args.rules) c.args.stream.now l.record-iterator c.next.new.self l.biff (group_of c.in_ok-record.record) c.in_ok-read.read l.invariant.2 steps c.if-record-eq-EOF.false (record {
        plain = c.in_ok-read.ensures.plain;
        table = c.in_ok-read.ensures.table;
        sheet = c.in_ok-read.ensures.sheet;
      })),
    )

pub returns-in_err-read : goal.returns-in_err-read
returns-in_err-read c =
    let l = c.loop-record in
    let s = l.invariant.2 in
    let p = err_from_is_err_and c.from_residual-in_err-read.result c.from_residual-in_err-read.ensures.1 in
    let steps = rw c.in_ok-record.was at c.in-Some.ensures.steps in
    rw (p.1, p.2) (record_refused (under c.args.rules) c.args.stream.now l.record-iterator c.next.new.self s.state (group_of c.in_ok-record.record) s.so_far steps c.if-record-eq-EOF.false c.in_err-read.field-0.0
    (subst (λ v. IsRecordRead c.args.rules.force_codepage v (group_of c.in_ok-record.record) (Err c.in_err-read.field-0.0)) s.version_is (record {
      plain = c.in_err-read.ensures.plain;
      table = c.in_err-read.ensures.table;
      sheet = c.in_err-read.ensures.sheet;
    })))

pub returns : goal.returns
returns c =
    let l = c.loop-record in
    let s = l.invariant.2 in
    are_checked (under c.args.rules) c.args.stream.now l.biff s.state s.version_is
    (globals_end (under c.args.rules) c.args.stream.now l.record-iterator s.state s.so_far c.in-None.ensures.steps.0)
