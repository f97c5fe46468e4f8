use Rattle.std.proofs.Common.{[], sym, ap, ◌∙◌, subst}
use Rattle.xls_parts.specs.PartRecords.{placed_of}
use Rattle.xls_style_cells.specs.Tables.{string_table, table_from}
use Rattle.xls_style_cells.specs.Walking.{table_at}
use Rattle.xls_style_cells.proofs.TableLemmas.{AllBehind, all_behind, table_taken, table_kept}
use Rattle.xls_style_cells.proofs.tables.last_table.Goals as goal

pub records-init : goal.records-init
records-init c =
    let stream = c.args.stream.now in
    let same = c.into_iter-r-iterator.ensures.into_iter_gives ∙ c.new-r-items.ensures in
    (tt, tt, (ap (table_from []) same, subst (AllBehind stream) (sym same) (all_behind stream)))

pub records-preserved-then-r-eq-SST : goal.records-preserved-then-r-eq-SST
records-preserved-then-r-eq-SST c =
    let l = c.records in
    let stream = c.args.stream.now in
    (tt, tt, table_taken stream (table_at stream l.last) (string_table stream) l.r-iterator (placed_of c.in-Some.r) c.next.new.self c.in-Some.ensures.steps l.invariant.2.1 c.if-r-eq-SST.true l.invariant.2.0)

pub records-preserved : goal.records-preserved
records-preserved c =
    let l = c.records in
    let stream = c.args.stream.now in
    (tt, tt, table_kept stream (table_at stream l.last) (string_table stream) l.r-iterator (placed_of c.in-Some.r) c.next.new.self c.in-Some.ensures.steps l.invariant.2.1 c.if-r-eq-SST.false l.invariant.2.0)

pub returns : goal.returns
returns c =
    let l = c.records in
    let stream = c.args.stream.now in
    ap (table_from (table_at stream l.last)) (sym c.in-None.ensures.steps.0) ∙ l.invariant.2.0
