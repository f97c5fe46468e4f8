use Rattle.std.proofs.Common.{refl, arith, ◌≤◌, length}
use Rattle.xls_listing.specs.Listing.{ref_line}
use Rattle.xls_listing.proofs.LineLemmas.{some-all, some-first, some-next, some-stopped}
use Rattle.xls_listing.proofs.RefLemmas.{cites_step}
use Rattle.xls_listing.proofs.DisplayedLemmas.{map_end}
use Rattle.xls_output.proofs.EachLemmas.{puts-each-stop}
use Rattle.xls_listing.proofs.refs.put_cites.Goals as goal

pub loop-i-init : goal.loop-i-init
loop-i-init g c = some-first (g.F.LineForm.is_text c.args.form.now) _ _ _ refl

pub loop-i-preserved : goal.loop-i-preserved
loop-i-preserved g c =
    some-next c.loop-i.invariant (cites_step (ref_line c.args.names.now) c.args.formula.now c.loop-i.i) c.in_ok-put_cite_at.ensures

pub returns-in_err-put_cite_at : goal.returns-in_err-put_cite_at
returns-in_err-put_cite_at g c =
    puts-each-stop c.from_residual.result c.from_residual.ensures.1
    (some-stopped _ c.loop-i.invariant (cites_step (ref_line c.args.names.now) c.args.formula.now c.loop-i.i) c.in_err-put_cite_at.ensures)

pub returns : goal.returns
returns g c =
    let all : length c.args.formula.now ≤ c.loop-i.i = omega (arith, c.loop-i-test.false) in
    some-all c.loop-i.invariant (map_end (ref_line c.args.names.now) c.args.formula.now c.loop-i.i all)
