use Rattle.std.proofs.Common.{sym, ap, ◌∙◌, ◌∷◌, ◌+◌, ◌-◌, map, arith}
use Rattle.std.specs.List.{range_with_len}
use Rattle.xls_biff.specs.Records.MergeCells.{region_at}
use Rattle.xls_data.specs.declared.regions.Dimensions.{Dimensions}
use Rattle.xls_view.proofs.ContentLemmas.{run_more}
use Rattle.xls_view.proofs.merges.Regions.next.Goals as goal

pub returns : goal.returns
returns c =
    let r = c.self.inside in
    sym c.self.view_is ∙ run_more (region_at r.body.now) r.next r.count (omega (arith, c.self.invariant.0, c.if-self.false))
    ∙ ap (λ (d : Dimensions). d ∷ map (region_at r.body.now) (range_with_len (r.next + 1) (r.count - (r.next + 1)))) (sym c.merge_region-region.ensures)
