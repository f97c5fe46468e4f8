use Rattle.xls_lay.proofs.PutLemmas.{puts_within}
use Rattle.xls_lay.proofs.table.TableWriter.put_unit.Goals as goal

pub returns-clause-puts : goal.returns-clause-puts
returns-clause-puts c =
    puts_within c.args.done.now.items c.cut_before_unit.new.done.items c.args.self.now c.cut_before_unit.new.self c.push_unit.new.self _ _ c.in_ok-cut_before_unit.ensures.puts c.in_ok-push_unit.ensures
