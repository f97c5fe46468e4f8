use Rattle.std.proofs.Common.{arith, sym}
use Rattle.std.proofs.lemmas.Result.{err_from_is_err_and}
use Rattle.xls_biff.specs.Walking.{group_of}
use Rattle.xls_open.specs.CheckSteps.{under, settings_checked}
use Rattle.xls_open.proofs.CheckLemmas.{sheets_nothing, sheets_other, sheet_long, sheet_clean, sheet_refused, sheets_uncut, sheets_eof, sheets_end}
use Rattle.xls_open.proofs.check.sheets.check_sheets.Goals as goal

pub loop-record-init : goal.loop-record-init
loop-record-init c = (
  tt,
  tt,
  rw c.into_iter-record-iterator.ensures.into_iter_gives (rw c.new-record-items.ensures
      (λ a. sheets_nothing (under c.args.rules) c.args.stream.now c.args.biff a (λ i. omega (arith, c.type_inv.stream i)))),
)

-- the globals aren't cut
pub returns-in_err-record : goal.returns-in_err-record
returns-in_err-record c =
    let l = c.loop-record in
    let a = c.requires in
    let steps = rw c.in_err-record.was at c.in-Some.ensures.steps in
    sheets_uncut (under c.args.rules) c.args.stream.now c.args.biff a l.record-iterator (l.invariant.2 a) steps.0 steps.2

pub returns-then-record-eq-EOF : goal.returns-then-record-eq-EOF
returns-then-record-eq-EOF c =
    let l = c.loop-record in
    let a = c.requires in
    let steps = rw c.in_ok-record.was at c.in-Some.ensures.steps in
    sheets_eof (under c.args.rules) c.args.stream.now c.args.biff a l.record-iterator (l.invariant.2 a) (group_of c.in_ok-record.record) c.next.new.self steps c.if-record-eq-EOF.true

pub read_usize-requires : goal.read_usize-requires
read_usize-requires c =
    let l = c.loop-record in
    let a = c.requires in
    let steps = rw c.in_ok-record.was at c.in-Some.ensures.steps in
    let long = sheet_long (under c.args.rules) c.args.stream.now c.args.biff a l.record-iterator c.next.new.self (group_of c.in_ok-record.record) (l.invariant.2 a) steps c.if-record-eq-EOF.false c.if-record-eq-BOUND_SHEET_8.true in
    omega (arith, long)

pub loop-record-preserved-in-Continue-branch-2 : goal.loop-record-preserved-in-Continue-branch-2
loop-record-preserved-in-Continue-branch-2 c =
    let l = c.loop-record in
    let steps = rw c.in_ok-record.was at c.in-Some.ensures.steps in (
      tt,
      tt,
      λ a. sheet_clean (under c.args.rules) c.args.stream.now c.args.biff a l.record-iterator c.next.new.self (group_of c.in_ok-record.record) (l.invariant.2 a) steps c.if-record-eq-EOF.false c.if-record-eq-BOUND_SHEET_8.true c.read_usize.result c.read_usize.ensures
          (c.in_ok-check_sheet.ensures (settings_checked (under c.args.rules) a.items) (sym a.version_is)),
    )

pub returns-in_err-check_sheet : goal.returns-in_err-check_sheet
returns-in_err-check_sheet c =
    let l = c.loop-record in
    let a = c.requires in
    let p = err_from_is_err_and c.from_residual-in_err-check_sheet.result c.from_residual-in_err-check_sheet.ensures.1 in
    let steps = rw c.in_ok-record.was at c.in-Some.ensures.steps in
    rw (p.1, p.2) (sheet_refused (under c.args.rules) c.args.stream.now c.args.biff a l.record-iterator c.next.new.self (group_of c.in_ok-record.record) (l.invariant.2 a) steps c.if-record-eq-EOF.false c.if-record-eq-BOUND_SHEET_8.true c.read_usize.result c.in_err-check_sheet.field-0.0 c.read_usize.ensures
    (c.in_err-check_sheet.ensures (settings_checked (under c.args.rules) a.items) (sym a.version_is)))

pub loop-record-preserved : goal.loop-record-preserved
loop-record-preserved c =
    let l = c.loop-record in
    let steps = rw c.in_ok-record.was at c.in-Some.ensures.steps in (
      tt,
      tt,
      λ a. sheets_other (under c.args.rules) c.args.stream.now c.args.biff a l.record-iterator c.next.new.self (group_of c.in_ok-record.record) (l.invariant.2 a) steps c.if-record-eq-EOF.false c.if-record-eq-BOUND_SHEET_8.false,
    )

pub returns : goal.returns
returns c =
    let l = c.loop-record in
    let a = c.requires in
    sheets_end (under c.args.rules) c.args.stream.now c.args.biff a l.record-iterator (l.invariant.2 a) c.in-None.ensures.steps.0
