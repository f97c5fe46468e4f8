use Rattle.std.proofs.Common.{rules, [], subst}
use Rattle.std.specs.Vec.Iter.{into_iter_items}
use Rattle.xls_range.proofs.SparseLemmas.{Holds, Holds-inside, Holds-more, Shows-blank}
use Rattle.xls_range.proofs.range.Range.put_all.Goals as goal

pub loop-cell-init : goal.loop-cell-init
loop-cell-init g c = record {
  prefix = [];
  whole = c.into_iter-cell-iterator.ensures.into_iter_gives.0;
  same = search rules;
  shows = Shows-blank g.T.PartialEq.eq g.T.CellType.blank_test c.args.self.now c.requires.blank;
}

pub put_at-requires : goal.put_at-requires
put_at-requires g c =
    let holds = subst (λ rest. Holds g.T.PartialEq.eq g.T.CellType.blank_test c.args.cells.items rest c.args.self.now c.loop-cell.self) c.in-Some.ensures.steps.0 c.loop-cell.invariant in
    rw c.into_parts-value.ensures (Holds-inside g.T.PartialEq.eq g.T.CellType.blank_test c.args.cells.items (into_iter_items c.next.new.self) c.in-Some.cell c.args.self.now c.loop-cell.self c.requires.inside holds)

pub loop-cell-preserved : goal.loop-cell-preserved
loop-cell-preserved g c =
    let holds = subst (λ rest. Holds g.T.PartialEq.eq g.T.CellType.blank_test c.args.cells.items rest c.args.self.now c.loop-cell.self) c.in-Some.ensures.steps.0 c.loop-cell.invariant in
    Holds-more g.T.PartialEq.eq g.T.CellType.blank_test c.args.cells.items (into_iter_items c.next.new.self) c.in-Some.cell c.args.self.now c.loop-cell.self c.put_at.new.self g.met.T.Eq.laws.refl (rw c.into_parts-value.ensures at c.put_at.ensures.written) c.put_at.ensures.same holds
