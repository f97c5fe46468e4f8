use Rattle.std.proofs.Common.{rules}
use Rattle.xls_macros.proofs.ModuleLemmas.{source_refused}
use Rattle.xls_macros.proofs.macros.source_from.Goals as goal

pub returns-in_err-source-clause-err : goal.returns-in_err-source-clause-err
returns-in_err-source-clause-err c =
    let cause = source_refused c.args.stream.now c.args.offset c.in_err-source.field-0.0 c.in_err-source.ensures in
    search rules
