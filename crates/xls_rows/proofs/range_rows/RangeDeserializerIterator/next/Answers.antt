use Rattle.std.proofs.Common.{◌^◌}
use Rattle.xls_rows.specs.HeaderTexts.{owned_texts}
use Rattle.xls_rows.specs.Rows.{AreWithin}
use Rattle.xls_rows.proofs.RangeLemmas.{all_after, count_after}
use Rattle.xls_rows.proofs.range_rows.RangeDeserializerIterator.next.Goals as goal

pub invariant_of-self-2 : goal.invariant_of-self-2
invariant_of-self-2 g c = (
  all_after (λ cells. AreWithin (owned_texts c.self.inside.headers) cells c.self.inside.column_indexes.items) c.self.inside.rows c.in_ok-cells.cells.now c.next.new.self
      c.in_ok-cells.ensures.steps c.self.invariant.0,
  count_after c.self.inside.row (2 ^ 32) c.self.inside.rows c.in_ok-cells.cells.now c.next.new.self c.in_ok-cells.ensures.steps c.self.invariant.1,
)
