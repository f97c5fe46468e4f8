use Rattle.std.proofs.Common.{refl, ap, sym}
use Rattle.xls_cell_formats.proofs.KeptLemmas.{last_more}
use Rattle.xls_cell_formats.proofs.places.last_places.Goals as goal

pub loop-k-preserved : goal.loop-k-preserved
loop-k-preserved c =
    last_more c.args.codes.now c.loop-k.k c.index-codes-k.result c.loop-k-test.true c.index-codes-k.is c.loop-k.places.items c.put_place.new.places.items _ _
    refl (ap (λ (f : _). f.0) (sym c.index-codes-k.is)) c.in_ok-put_place.ensures c.loop-k.invariant
