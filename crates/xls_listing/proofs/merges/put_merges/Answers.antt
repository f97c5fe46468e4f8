use Rattle.std.proofs.Common.{ap, map}
use Rattle.xls_listing.specs.Listing.{merge_line}
use Rattle.xls_listing.proofs.LineLemmas.{some-all, some-first, some-next, some-stopped}
use Rattle.xls_output.proofs.EachLemmas.{puts-each-stop}
use Rattle.xls_listing.proofs.merges.put_merges.Goals as goal

pub loop-region-init : goal.loop-region-init
loop-region-init g c =
    (tt, tt, some-first (g.F.LineForm.is_text c.args.form.now) _ _ _ (ap (map merge_line) c.into_iter-region-iterator.ensures.into_iter_gives))

pub loop-region-preserved : goal.loop-region-preserved
loop-region-preserved g c =
    (tt, tt, some-next c.loop-region.invariant.2 (ap (map merge_line) c.in-Some.ensures.steps) c.in_ok-put_line.ensures)

pub returns-in_err-put_line : goal.returns-in_err-put_line
returns-in_err-put_line g c =
    puts-each-stop c.from_residual.result c.from_residual.ensures.1
    (some-stopped _ c.loop-region.invariant.2 (ap (map merge_line) c.in-Some.ensures.steps) c.in_err-put_line.ensures)

pub returns : goal.returns
returns g c = some-all c.loop-region.invariant.2 (ap (map merge_line) c.in-None.ensures.steps.0)
