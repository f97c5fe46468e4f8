use Rattle.xls_lay.proofs.PutLemmas.{units_fit_width, puts_string}
use Rattle.xls_lay.proofs.table.TableWriter.put_string.Goals as goal

pub put_units-requires-clause-width : goal.put_units-requires-clause-width
put_units-requires-clause-width c =
    units_fit_width c.args.units.now c.is_all_narrow-is_wide.result c.is_all_narrow-is_wide.ensures (λ i. (c.type_inv.units i).fits)

pub returns-clause-puts : goal.returns-clause-puts
returns-clause-puts c =
    puts_string c.args.done.now.items c.put_head.new.done.items c.put_units.new.done.items c.args.self.now c.put_head.new.self c.put_units.new.self c.args.units.now c.is_all_narrow-is_wide.result c.is_all_narrow-is_wide.ensures c.in_ok-put_head.ensures.puts c.in_ok-put_units.ensures.puts
