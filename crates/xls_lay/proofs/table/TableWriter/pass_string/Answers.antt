use Rattle.xls_lay.proofs.PutLemmas.{on_memory, on_pass, on_stop}
use Rattle.xls_lay.proofs.table.TableWriter.pass_string.Goals as goal

pub returns-in_err-put_string-clause-puts : goal.returns-in_err-put_string-clause-puts
returns-in_err-put_string-clause-puts g c =
    on_stop _ c.args.self.now _ _ c.put_string.new.self c.from_residual.result c.from_residual.ensures.1 (on_memory _ _ _ _ c.args.self.now _)

pub returns-clause-puts : goal.returns-clause-puts
returns-clause-puts g c =
    on_pass _ _ _ _ c.args.self.now c.put_string.new.self _ _ c.pass.result c.in_ok-put_string.ensures.puts c.pass.ensures.puts
