use Rattle.std.proofs.Common.{refl, arith, ◌-◌, ◌≡◌, ◌∙◌, sym, ap, ℕ, suc, Some, [], ◌∷◌}
use Rattle.xls_stream.specs.StringTable.{tail_at}
use Rattle.xls_stream.proofs.StringUnits.{tail_over_byte, tail_over_mark, no_tail, tail_done}
use Rattle.xls_strings.proofs.MarkLemmas.{ends_here, took_byte, took_none}
use Rattle.xls_style_cells.proofs.marked.skip_tail.Goals as goal

pub loop-left-preserved-then-is_some : goal.loop-left-preserved-then-is_some
loop-left-preserved-then-is_some c =
    let l = c.loop-left in
    let b = took_byte l.text c.take_byte.new.self c.take_byte.result c.take_byte.ensures (sym c.if-is_some.ensures) in
    let k : l.left ≡ suc (l.left - 1) = omega arith in
    let here : tail_at l.left l.text ≡ tail_at (l.left - 1) c.take_byte.new.self = ap (tail_at l.left) b.1 ∙ ap (λ (n : ℕ). tail_at n (Some b.0 ∷ c.take_byte.new.self)) k ∙ tail_over_byte (l.left - 1) b.0 c.take_byte.new.self in
    sym here ∙ l.invariant

pub returns-then-not-take_mark : goal.returns-then-not-take_mark
returns-then-not-take_mark c =
    let l = c.loop-left in
    let n = took_none l.text c.take_byte.new.self c.take_byte.result c.take_byte.ensures (sym c.if-is_some.ensures) in
    let m = rw n.0 at c.if-not-take_mark.ensures in
    let e : l.text ≡ [] = ends_here l.text n.1 m.1 in
    (refl, sym l.invariant ∙ ap (tail_at l.left) e ∙ no_tail l.left c.loop-left-test.true)

pub loop-left-preserved : goal.loop-left-preserved
loop-left-preserved c =
    let l = c.loop-left in
    let n = took_none l.text c.take_byte.new.self c.take_byte.result c.take_byte.ensures (sym c.if-is_some.ensures) in
    let m = rw n.0 at c.if-not-take_mark.ensures in
    let here : tail_at l.left l.text ≡ tail_at l.left c.take_mark.new.self = ap (tail_at l.left) m ∙ tail_over_mark l.left c.take_mark.new.self c.loop-left-test.true in
    sym here ∙ l.invariant

pub returns : goal.returns
returns c =
    let l = c.loop-left in
    let z : l.left ≡ 0 = omega arith in
    sym l.invariant ∙ ap (λ (n : ℕ). tail_at n l.text) z ∙ tail_done l.text
