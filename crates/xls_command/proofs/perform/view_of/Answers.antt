use Rattle.xls_command.proofs.ViewLemmas.{cites, opens, refused}
use Rattle.xls_command.proofs.perform.view_of.Goals as goal

pub returns-clause-opened : goal.returns-clause-opened
returns-clause-opened c =
    opens _ c.args.bytes.now c.new.result c.in_ok-options.ensures c.requires.within c.new.ensures.ok

pub returns-clause-cited : goal.returns-clause-cited
returns-clause-cited c = cites _ c.args.bytes.now c.new.result c.in_ok-options.ensures c.new.ensures.ok

pub returns-clause-fault : goal.returns-clause-fault
returns-clause-fault c =
    refused _ c.args.bytes.now c.new.result c.in_ok-options.ensures c.requires.within c.new.ensures.cause
