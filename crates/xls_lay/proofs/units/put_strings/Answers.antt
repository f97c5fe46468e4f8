use Rattle.std.proofs.Common.{List, ℕ, ◌+◌, length, subst, sym}
use Rattle.xls_layouts.specs.LaidStrings.{marks_of_string}
use Rattle.xls_layouts.specs.Canonical.{canonical_string}
use Rattle.xls_lay.specs.BytesOutput.{bytes_output}
use Rattle.xls_lay.specs.Putting.{PutsOn, StopsOn}
use Rattle.xls_lay.proofs.PutLemmas.{on_stop}
use Rattle.xls_lay.proofs.StringLemmas.{PutStrings, strings_more, strings_none, strings_stop}
use Rattle.xls_lay.proofs.units.put_strings.Goals as goal

pub loop-size-init : goal.loop-size-init
loop-size-init g c =
    (strings_none (bytes_output g.K.Sink.state c.args.out.now) c.args.table.now c.args.sizes.now c.args.units.now c.requires.sizes, c.requires.room)

pub loop-size-preserved : goal.loop-size-preserved
loop-size-preserved g c =
    let l = c.loop-size in
    let output = bytes_output g.K.Sink.state in
    let new = c.pass_string.new.self in (
      subst (λ (x : List ℕ). PutStrings (output c.args.out.now) c.args.table.now (output c.pass_string.new.out) new c.args.sizes.now c.args.units.now x (l.size-index + 1)) (sym c.split_at.ensures.back)
          (strings_more (output c.args.out.now) c.args.table.now (output l.out) l.table c.args.sizes.now c.args.units.now l.rest.now l.size-index l.invariant.0 (output c.pass_string.new.out) new c.loop-size-test.true
          (subst (λ (x : List ℕ). PutsOn (output l.out) l.table (marks_of_string (canonical_string (length l.table.body.items) x)) (output c.pass_string.new.out) new) c.split_at.ensures.front c.in_ok-pass_string.ensures.puts)),
      c.in_ok-pass_string.ensures.room,
    )

pub returns-in_err-pass_string-clause-puts : goal.returns-in_err-pass_string-clause-puts
returns-in_err-pass_string-clause-puts g c =
    let l = c.loop-size in
    let output = bytes_output g.K.Sink.state in
    on_stop _ c.args.table.now _ _ c.pass_string.new.self c.from_residual.result c.from_residual.ensures.1
    (strings_stop (output c.args.out.now) c.args.table.now (output l.out) l.table c.args.sizes.now c.args.units.now l.rest.now l.size-index l.invariant.0 (output c.pass_string.new.out) c.in_err-pass_string.field-0.0 c.loop-size-test.true
    (subst (λ (x : List ℕ). StopsOn (output l.out) l.table (marks_of_string (canonical_string (length l.table.body.items) x)) (output c.pass_string.new.out) c.in_err-pass_string.field-0.0) c.split_at.ensures.front c.in_err-pass_string.ensures.puts))
