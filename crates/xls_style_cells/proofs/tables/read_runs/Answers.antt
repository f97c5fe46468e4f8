use Rattle.std.proofs.Common.{arith}
use Rattle.std.specs.BTreeMap.{get}
use Rattle.std.specs.Ordering.{nat_cmp}
use Rattle.xls_style_cells.proofs.TableLemmas.{keep_more, kept_over, kept_all}
use Rattle.xls_style_cells.proofs.tables.read_runs.Goals as goal

pub strings-preserved : goal.strings-preserved
strings-preserved c =
    let l = c.strings in (
      omega (arith, c.strings-test.true),
      keep_more c.args.table.now l.text c.take_next-runs.new.text l.index (get nat_cmp l.places) (get nat_cmp c.put.new.places) c.take_next-runs.result l.invariant.1 c.take_next-runs.ensures.runs c.take_next-runs.ensures.after c.in_ok-put.ensures,
    )

pub returns-then-is_over : goal.returns-then-is_over
returns-then-is_over c =
    let l = c.strings in
    λ i h. kept_over c.args.table.now l.text l.index (get nat_cmp l.places) l.invariant.1 (c.is_over.ensures.0 c.if-is_over.true) i

pub returns : goal.returns
returns c =
    let l = c.strings in
    kept_all c.args.table.now l.text l.index (get nat_cmp l.places) l.invariant.1 (omega (arith, c.strings-test.false))
