use Rattle.std.proofs.Common.{refl, arith, ◌+◌, ◌*◌, ◌-◌, [], ◌∷◌, ◌++◌}
use Rattle.xls_stream.specs.StringTable.{units_at}
use Rattle.xls_strings.proofs.MarkLemmas.{units_more, unit_step, no_unit, no_width, width_more, units_fail, units_done}
use Rattle.xls_style_cells.proofs.marked.skip_units.Goals as goal

pub returns-in_default : goal.returns-in_default
returns-in_default c =
    let a = c.args in let l = c.loop-left in
    (refl, units_fail (units_at a.count a.wide a.text.now) [] l.invariant.0 l.left l.width l.text l.invariant.1 (omega arith) (no_unit (l.left - 1) c.in-Some._low l.width l.text c.take_byte.new.self c.take_high.new.text c.in-Some.ensures c.in_default.ensures))

pub loop-left-preserved-in-Some : goal.loop-left-preserved-in-Some
loop-left-preserved-in-Some c =
    let a = c.args in let l = c.loop-left in
    (l.invariant.0 ++ (c.in-Some._low + 256 * c.in-Some-take_high._high) ∷ [], units_more (units_at a.count a.wide a.text.now) [] l.invariant.0 (l.invariant.0 ++ (c.in-Some._low + 256 * c.in-Some-take_high._high) ∷ []) l.left (c.in-Some._low + 256 * c.in-Some-take_high._high) l.width l.text c.take_high.new.text l.invariant.1 (omega arith) (unit_step (l.left - 1) c.in-Some._low c.in-Some-take_high._high l.width l.text c.take_byte.new.self c.take_high.new.text c.in-Some.ensures c.in-Some-take_high.ensures) refl)

pub returns-in_default-take_width : goal.returns-in_default-take_width
returns-in_default-take_width c =
    let a = c.args in let l = c.loop-left in
    (refl, units_fail (units_at a.count a.wide a.text.now) [] l.invariant.0 l.left l.width l.text l.invariant.1 (omega arith) (no_width (l.left - 1) l.width l.text c.take_width.new.text c.in-None.ensures.1 (rw c.in-None.ensures.0 at c.in_default-take_width.ensures)))

pub loop-left-preserved : goal.loop-left-preserved
loop-left-preserved c =
    let a = c.args in let l = c.loop-left in
    (l.invariant.0, width_more (units_at a.count a.wide a.text.now) [] l.invariant.0 l.left l.width c.in-Some-take_width.next l.text c.take_width.new.text l.invariant.1 (omega arith) (rw c.in-None.ensures.0 at c.in-Some-take_width.ensures))

pub returns : goal.returns
returns c =
    let a = c.args in let l = c.loop-left in
    let d = units_done (units_at a.count a.wide a.text.now) [] l.invariant.0 l.left l.width l.text l.invariant.1 (omega arith) in
    (d.0, d.2)
