use Rattle.std.proofs.Common.{arith, length, sym}
use Rattle.xls_arrays.proofs.DisplayedLemmas.{map-next}
use Rattle.xls_styles.specs.Styles.{style_of}
use Rattle.xls_beside_arrays.specs.Styles.{with_style}
use Rattle.xls_beside_arrays.proofs.LaidLemmas.{partly-next}
use Rattle.xls_beside_arrays.proofs.ListLemmas.{range-next}
use Rattle.xls_beside_arrays.proofs.styles.lay_items.Goals as goal

pub loop-i-preserved : goal.loop-i-preserved
loop-i-preserved c =
    let count = length c.args.styles.now.xfs in
    partly-next with_style c.loop-i.invariant
    (map-next (style_of c.args.styles.now)
    (range-next c.loop-i.i count (omega (arith, c.loop-i-test.true, c.loop-i.auto.i-end, c.count-i-end.ensures))) (sym c.style.ensures))
    c.in_ok-lay_style.ensures.same c.in_ok-lay_style.ensures.ok
