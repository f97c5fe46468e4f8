use Rattle.std.proofs.Common.{rules, ◌≡◌, ◌+◌, pos, SFits, w64, sym, ap, ◌∙◌, subst, arith, length}
use Rattle.std.proofs.lemmas.Int.{ints}
use Rattle.xls_data.specs.Data.{content_of, is_nothing}
use Rattle.xls_range.specs.Lists.{used}
use Rattle.xls_command.specs.Sample.{used_in, int_of}
use Rattle.xls_command.proofs.CountLemmas.{Placed, SoFar, count_next, count_nothing, counted_next, used_kept, used_most}
use Rattle.xls_command.proofs.summary.measured.Goals as goal

pub loop-cell-init : goal.loop-cell-init
loop-cell-init c =
    let all = used_in is_nothing c.args.range.now in
    subst (λ l. SoFar all l 0 (pos 0)) (ap (used is_nothing) (sym c.cells-cell-items.ensures.items ∙ sym c.into_iter-cell-iterator.ensures.into_iter_gives)) (count_nothing all)

-- a cell more is one of fewer than 2^64
pub overflow_add-cells : goal.overflow_add-cells
overflow_add-cells c =
    let all = used_in is_nothing c.args.range.now in
    let left = c.next.new.self in
    let cell : Placed = (c.in-Some.field-0-0, c.in-Some.field-0-1, c.in-Some.cell.now) in
    let split = ap (used is_nothing) c.in-Some.ensures.steps ∙ used_kept cell left c.if-not-is_blank.ensures in
    let counted = counted_next all _ (used is_nothing left) cell c.loop-cell.cells _ c.loop-cell.invariant split in
    let most = used_most c.cells-cell-items.result in
    let same = ap (λ cells. length (used is_nothing cells)) c.cells-cell-items.ensures.items in
    let bound = c.cells-cell-items.ensures.bound in
    omega (arith, counted, most, same, bound)

-- one cell more, whose sum has 128 bits
pub loop-cell-preserved-then-not-is_blank : goal.loop-cell-preserved-then-not-is_blank
loop-cell-preserved-then-not-is_blank c =
    let all = used_in is_nothing c.args.range.now in
    let left = c.next.new.self in
    let cell : Placed = (c.in-Some.field-0-0, c.in-Some.field-0-1, c.in-Some.cell.now) in
    let split = ap (used is_nothing) c.in-Some.ensures.steps ∙ used_kept cell left c.if-not-is_blank.ensures in
    let fits : SFits w64 c.int_in.result = search rules in
    let next : c.int_in.result ≡ int_of (content_of c.in-Some.cell.now) = search rules in
    let more = count_next all _ (used is_nothing left) cell c.loop-cell.cells _ c.int_in.result c.loop-cell.invariant split fits next in
    subst (SoFar all (used is_nothing left) (c.loop-cell.cells + 1)) (omega (arith, ints)) more
