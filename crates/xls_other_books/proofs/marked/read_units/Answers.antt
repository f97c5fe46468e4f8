use Rattle.std.proofs.Common.{refl, arith, ◌+◌, ◌*◌, ◌-◌, [], ap, sym, ◌∙◌, List, ℕ, Some}
use Rattle.xls_stream.specs.StringTable.{units_at}
use Rattle.xls_strings.proofs.MarkLemmas.{units_more, unit_step, no_unit, no_width, width_more, units_fail, units_done}
use Rattle.xls_other_books.proofs.marked.read_units.Goals as goal

pub returns-in_default-clause-units : goal.returns-in_default-clause-units
returns-in_default-clause-units c =
    let a = c.args in let l = c.units in
    units_fail (units_at a.count a.wide a.text.now.marks) [] l.units.items l.left l.is_wide l.text.marks l.invariant.units (omega arith)
    (no_unit (l.left - 1) c.in-Some.low l.is_wide l.text.marks c.take_byte.new.self.marks c.take_high.new.text.marks c.in-Some.ensures.byte c.in_default.ensures.high)

pub units-preserved-in-Some : goal.units-preserved-in-Some
units-preserved-in-Some c =
    let a = c.args in let l = c.units in
    record {
      units = units_more (units_at a.count a.wide a.text.now.marks) [] l.units.items c.push.new.self.items l.left (c.in-Some.low + 256 * c.in-Some-take_high.high) l.is_wide l.text.marks c.take_high.new.text.marks
          l.invariant.units (omega arith) (unit_step (l.left - 1) c.in-Some.low c.in-Some-take_high.high l.is_wide l.text.marks c.take_byte.new.self.marks c.take_high.new.text.marks c.in-Some.ensures.byte c.in-Some-take_high.ensures.high)
          (rw (c.in_ok-push-in-Some.ensures.items, c.from.ensures, c.from-in-Some.ensures) refl);
      kept = c.in-Some-take_high.ensures.kept ∙ c.in-Some.ensures.kept ∙ l.invariant.kept;
    }

pub returns-in_default-take_width-clause-units : goal.returns-in_default-take_width-clause-units
returns-in_default-take_width-clause-units c =
    let a = c.args in let l = c.units in
    units_fail (units_at a.count a.wide a.text.now.marks) [] l.units.items l.left l.is_wide l.text.marks l.invariant.units (omega arith)
    (no_width (l.left - 1) l.is_wide l.text.marks c.take_width.new.text.marks c.in-None.ensures.byte.1 (rw c.in-None.ensures.byte.0 at c.in_default-take_width.ensures.width))

pub units-preserved : goal.units-preserved
units-preserved c =
    let a = c.args in let l = c.units in
    record {
      units = width_more (units_at a.count a.wide a.text.now.marks) [] l.units.items l.left l.is_wide c.in-Some-take_width.next l.text.marks c.take_width.new.text.marks
          l.invariant.units (omega arith) (rw c.in-None.ensures.byte.0 at c.in-Some-take_width.ensures.width);
      kept = c.in-Some-take_width.ensures.kept ∙ c.in-None.ensures.kept ∙ l.invariant.kept;
    }

pub returns-clause-units : goal.returns-clause-units
returns-clause-units c =
    let a = c.args in let l = c.units in
    let done = units_done (units_at a.count a.wide a.text.now.marks) [] l.units.items l.left l.is_wide l.text.marks l.invariant.units (omega arith) in
    done.2 ∙ ap (λ (us : List ℕ). Some (us, l.text.marks)) (sym done.1)
