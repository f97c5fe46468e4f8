use Rattle.std.proofs.Common.{◌<◌, ◌^◌, ℕ, List, length, sym, subst, arith}
use Rattle.std.proofs.lemmas.Result.{err_from_is_err_and}
use Rattle.xls_biff.specs.Walking.{group_of}
use Rattle.xls_stream.specs.StringTable.{Mark, weight, Table}
use Rattle.xls_lay.specs.Pushing.{AddsString}
use Rattle.xls_strings.proofs.SstLemmas.{next_lighter}
use Rattle.xls_lay.proofs.TableReadLemmas.{marks_long, marks_weight, read_none, read_count, read_size, read_more, read_all, read_fails}
use Rattle.xls_lay.proofs.read.take_table.Goals as goal

pub loop-units-init : goal.loop-units-init
loop-units-init c =
    let g = group_of c.args.r.now in
    let ms = c.in_ok-reader.reader in
    let e = c.in_ok-reader.ensures in (
      ms,
      e,
      subst (λ (x : List Mark). weight x < 2 ^ 32) (sym (marks_long g ms e)) (omega (arith, marks_weight g, c.requires.small)),
      read_none c.args.list.now g ms e c.requires.bytes c.push_table.new.self c.in_ok-push_table.ensures.ok,
    )

pub returns-in_err-units : goal.returns-in_err-units
returns-in_err-units c = λ strings h.
    let l = c.loop-units in
    let i = l.invariant in
    let p = err_from_is_err_and c.from_residual-in_err-units.result c.from_residual-in_err-units.ensures.1 in
    let f = c.in_err-units.ensures in
    let t : Table i.0 strings = subst (λ (x : List Mark). Table x strings) (sym (marks_long (group_of c.args.r.now) i.0 i.1)) h.1 in
    rw (p.1, p.2) (read_fails c.args.list.now l.list i.0 l.reader i.3 strings t c.in_err-units.field-0.0 f.1 f.2)

pub push_string-requires-clause-count : goal.push_string-requires-clause-count
push_string-requires-clause-count c =
    let l = c.loop-units in
    let n = rw c.in-Some.is at c.in_ok-units.ensures in
    read_count c.args.list.now l.list l.invariant.0 l.reader l.invariant.3 l.invariant.2 c.in-Some.units.items c.next_units.new.self n.1

pub push_string-requires-clause-size : goal.push_string-requires-clause-size
push_string-requires-clause-size c =
    let l = c.loop-units in
    let n = rw c.in-Some.is at c.in_ok-units.ensures in
    subst (λ (x : List ℕ). length x < 2 ^ 16) (sym c.deref.ensures.value)
    (read_size c.args.list.now l.list l.invariant.0 l.reader l.invariant.3 c.in-Some.units.items c.next_units.new.self n.1)

pub loop-units-smaller : goal.loop-units-smaller
loop-units-smaller c =
    let l = c.loop-units in
    let n = rw c.in-Some.is at c.in_ok-units.ensures in
    omega (arith, next_lighter l.reader c.next_units.new.self c.in-Some.units.items n.1)

pub loop-units-preserved : goal.loop-units-preserved
loop-units-preserved c =
    let l = c.loop-units in
    let i = l.invariant in
    let n = rw c.in-Some.is at c.in_ok-units.ensures in
    let a : AddsString l.list c.push_string.new.self c.in-Some.units.items =
    subst (λ (x : List ℕ). AddsString l.list c.push_string.new.self x) c.deref.ensures.value c.in_ok-push_string.ensures.ok in
    (i.0, i.1, i.2, read_more c.args.list.now l.list i.0 l.reader i.3 c.in-Some.units.items c.next_units.new.self c.push_string.new.self n.1 a)

pub returns : goal.returns
returns c = λ strings h.
    let l = c.loop-units in
    let i = l.invariant in
    let t : Table i.0 strings = subst (λ (x : List Mark). Table x strings) (sym (marks_long (group_of c.args.r.now) i.0 i.1)) h.1 in
    let n = rw c.in_default.is at c.in_ok-units.ensures in
    read_all c.args.list.now l.list i.0 l.reader i.3 strings t n.0
