use Rattle.xls_data.specs.declared.regions.Dimensions.{Dimensions}
use Rattle.xls_biff.specs.Records.MergeCells.{region_at}
use Rattle.xls_biff.proofs.ListLemmas.{adds_more}
use Rattle.xls_biff.proofs.records.merge_cells.push_merges.Goals as goal

pub loop-i-preserved : goal.loop-i-preserved
loop-i-preserved c =
    adds_more (λ (d : Dimensions). d) (region_at c.args.r.now) c.args.merges.now.items c.loop-i.merges.items c.push.new.self.items c.loop-i.i c.merge_region.result c.loop-i.invariant c.in_ok-push.ensures.items c.merge_region.ensures
