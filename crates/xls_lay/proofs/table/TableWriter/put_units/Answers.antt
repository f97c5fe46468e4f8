use Rattle.std.proofs.Common.{List, subst, get_or}
use Rattle.xls_stream.specs.StringTable.{Mark}
use Rattle.xls_lay.specs.Putting.{PutsMarks}
use Rattle.xls_lay.proofs.PutLemmas.{units_more, cut_unit}
use Rattle.xls_lay.proofs.table.TableWriter.put_units.Goals as goal

pub loop-unit-preserved : goal.loop-unit-preserved
loop-unit-preserved c =
    let l = c.loop-unit in (
      units_more c.args.done.now.items c.args.self.now l.done.items l.self c.args.is_wide c.args.units.now l.unit-index l.invariant.0 c.put_unit.new.done.items c.put_unit.new.self c.loop-unit-test.true
          (subst (λ (x : List Mark). PutsMarks l.done.items l.self x c.put_unit.new.done.items c.put_unit.new.self) (cut_unit c.args.is_wide _ (get_or c.args.units.now l.unit-index 0)) c.in_ok-put_unit.ensures.puts),
      c.in_ok-put_unit.ensures.room,
    )
