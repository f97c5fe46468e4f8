use Rattle.std.proofs.Common.{arith, refl, ◌<◌, ◌+◌, ◌*◌, length}
use Rattle.std.proofs.lemmas.Nat.{mul-add-lt}
use Rattle.std.proofs.lemmas.Option.{slice_get_read}
use Rattle.xls_range.proofs.range.indexing.RangeIndexMutTuple2UsizeUsize.index_mut.Goals as goal

pub returns : goal.returns
returns g c =
    let requires = rw (← c.self.view_is) at c.requires in
    let count = c.self.invariant.count in
    let near : c.args.index.0 * c.self.inside.columns + c.args.index.1 < length c.self.inside.cells.items = omega (arith, count, mul-add-lt c.args.index.0 c.self.inside.columns c.args.index.1 c.self.inside.rows requires.0 requires.1) in (
      (refl, λ w. rw (← c.self.view_is)),
      record { writes_back = tt; value = rw (← c.self.view_is) (slice_get_read c.self.inside.cells.items _ _ _ refl near c.index_mut.ensures.value) },
    )
