use Rattle.std.proofs.Common.{arith, refl, subst, Ok, Err}
use Rattle.std.proofs.lemmas.Result.{err_from_is_err_and}
use Rattle.xls_biff.specs.Walking.{group_of}
use Rattle.xls_open.proofs.StateLemmas.{nothing_yielded}
use Rattle.xls_open.proofs.GlobalsLemmas.{IsRecordRead, globals_nothing, globals_next, globals_more, record_refused, globals_cut, globals_eof, globals_end, reads_fault}
use Rattle.xls_open.specs.Workbook.{rules_of}
use Rattle.xls_open.proofs.globals.read_globals.Goals as goal

pub loop-record-init : goal.loop-record-init
loop-record-init c = (
  tt,
  tt,
  rw c.into_iter-record-iterator.ensures.into_iter_gives (rw (c.new-record-items.ensures, c.new-globals.ensures)
      (globals_nothing (rules_of c.args.options.now) c.args.stream.now _ (λ i. omega (
        arith,
        c.type_inv.stream i,
      )) (nothing_yielded (rules_of c.args.options.now) c.args.page c.requires))),
)

pub returns-in_err-record : goal.returns-in_err-record
returns-in_err-record c =
    let l = c.loop-record in
    let rules = rules_of c.args.options.now in
    let p = err_from_is_err_and c.from_residual.result c.from_residual.ensures.1 in
    let steps = rw c.in_err-record.was at c.in-Some.ensures.steps in
    rw (p.1, p.2) (reads_fault rules c.args.stream.now c.in_err-record.field-0.0
    (globals_cut rules c.args.stream.now l.record-iterator l.globals l.invariant.2 c.in_err-record.field-0.0 steps.0 steps.1 steps.2))

pub returns-then-record-eq-EOF : goal.returns-then-record-eq-EOF
returns-then-record-eq-EOF c =
    let l = c.loop-record in
    let steps = rw c.in_ok-record.was at c.in-Some.ensures.steps in
    globals_eof (rules_of c.args.options.now) c.args.stream.now l.record-iterator l.globals l.invariant.2 (group_of c.in_ok-record.record) c.next.new.self steps c.if-record-eq-EOF.true

-- the record is a line without a fault
pub take-requires : goal.take-requires
take-requires c =
    let l = c.loop-record in
    let steps = rw c.in_ok-record.was at c.in-Some.ensures.steps in
    let m = globals_next (rules_of c.args.options.now) c.args.stream.now l.record-iterator c.next.new.self l.globals (group_of c.in_ok-record.record) l.invariant.2 steps c.if-record-eq-EOF.false c.in_ok-read.read
    (subst (λ s. IsRecordRead c.args.options.now.force_codepage s.version (group_of c.in_ok-record.record) (Ok c.in_ok-read.read)) c.globals.view_is (record {
      plain = c.in_ok-read.ensures.plain;
      table = c.in_ok-read.ensures.table;
      sheet = c.in_ok-read.ensures.sheet;
    })) in
    (m.body, Ok m.gives, m.stands, refl)

pub loop-record-preserved : goal.loop-record-preserved
loop-record-preserved c =
    let l = c.loop-record in
    let steps = rw c.in_ok-record.was at c.in-Some.ensures.steps in (
      tt,
      tt,
      globals_more (rules_of c.args.options.now) c.args.stream.now l.record-iterator c.next.new.self l.globals (group_of c.in_ok-record.record) l.invariant.2 steps c.if-record-eq-EOF.false c.in_ok-read.read c.take.new.self
          (subst (λ s. IsRecordRead c.args.options.now.force_codepage s.version (group_of c.in_ok-record.record) (Ok c.in_ok-read.read)) c.globals.view_is (record {
            plain = c.in_ok-read.ensures.plain;
            table = c.in_ok-read.ensures.table;
            sheet = c.in_ok-read.ensures.sheet;
          }))
          (c.in_ok-take.ensures),
    )

pub returns-in_err-read : goal.returns-in_err-read
returns-in_err-read c =
    let l = c.loop-record in
    let rules = rules_of c.args.options.now in
    let p = err_from_is_err_and c.from_residual-in_err-read.result c.from_residual-in_err-read.ensures.1 in
    let steps = rw c.in_ok-record.was at c.in-Some.ensures.steps in
    rw (p.1, p.2) (reads_fault rules c.args.stream.now c.in_err-read.field-0.0
    (record_refused rules c.args.stream.now l.record-iterator c.next.new.self l.globals (group_of c.in_ok-record.record) l.invariant.2 steps c.if-record-eq-EOF.false c.in_err-read.field-0.0
    (subst (λ s. IsRecordRead c.args.options.now.force_codepage s.version (group_of c.in_ok-record.record) (Err c.in_err-read.field-0.0)) c.globals.view_is (record {
      plain = c.in_err-read.ensures.plain;
      table = c.in_err-read.ensures.table;
      sheet = c.in_err-read.ensures.sheet;
    }))))

pub returns : goal.returns
returns c =
    let l = c.loop-record in
    globals_end (rules_of c.args.options.now) c.args.stream.now l.record-iterator l.globals l.invariant.2 c.in-None.ensures.steps.0
