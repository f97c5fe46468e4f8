use Rattle.xls_command.proofs.CommandLemmas.{ends-of_bytes, ends-of_cause, reads_source, steady-of_bytes, steady-of_cause}
use Rattle.xls_command.proofs.perform.perform.Goals as goal

-- all of the source was read
pub returns-in-Ok-clause-ends : goal.returns-in-Ok-clause-ends
returns-in-Ok-clause-ends g c =
    ends-of_bytes c.args.command (reads_source c.args.command c.if-reads_nothing.ensures) _ _ _ _ c.write-in-Ok.result _ c.in-Ok.ensures.all c.in-Ok.ensures.end c.in-Ok.ensures.within c.write-in-Ok.ensures

pub returns-in-Ok-clause-steady : goal.returns-in-Ok-clause-steady
returns-in-Ok-clause-steady g c =
    let state = g.K.Sink.state in
    steady-of_bytes c.args.command (reads_source c.args.command c.if-reads_nothing.ensures) _ _ (state c.args.sink.now) (state c.write-in-Ok.new.sink) c.write-in-Ok.result _ c.in-Ok.ensures.all c.in-Ok.ensures.end c.write-in-Ok.ensures

-- the source was refused
pub returns-in-Err-clause-ends : goal.returns-in-Err-clause-ends
returns-in-Err-clause-ends g c =
    let state = g.S.Source.state in
    ends-of_cause c.args.command (reads_source c.args.command c.if-reads_nothing.ensures) (state c.args.source.now) (state c.read_all.new.source) _ _ c.refuse.result c.in-Err.error c.in-Err.ensures.cause c.refuse.ensures

pub returns-in-Err-clause-steady : goal.returns-in-Err-clause-steady
returns-in-Err-clause-steady g c =
    let source = g.S.Source.state in
    let state = g.K.Sink.state in
    steady-of_cause c.args.command (reads_source c.args.command c.if-reads_nothing.ensures) (source c.args.source.now) (source c.read_all.new.source) (state c.args.sink.now) (state c.refuse.new.sink) c.refuse.result c.in-Err.error c.in-Err.ensures.cause c.refuse.ensures
