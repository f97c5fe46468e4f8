use Rattle.std.proofs.Common.{arith}
use Rattle.xls_open.specs.Workbook.{rules_of}
use Rattle.xls_beside.proofs.CheckedLemmas.{unread_cause}
use Rattle.xls_beside.proofs.checked.read_globals_of.Goals as goal

pub returns-clause-err : goal.returns-clause-err
returns-clause-err c =
    unread_cause (rules_of c.args.options.now) c.args.bytes.now (λ i. omega (arith, c.type_inv.bytes i)) c.in_ok-page.ensures.0
    c.read_globals.result c.read_globals.ensures
