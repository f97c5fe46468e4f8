use Rattle.std.proofs.Common.{rules}
use Rattle.xls_documents.proofs.DirectoryLemmas.{compression_refused, project_refused}
use Rattle.xls_macros.proofs.macros.read_directory.Goals as goal

pub returns-in_err-plain-clause-err : goal.returns-in_err-plain-clause-err
returns-in_err-plain-clause-err c =
    let cause = compression_refused c.args.bytes.now c.in_err-plain.field-0.0 c.in_err-plain.ensures in
    search rules

pub returns-in_err-project-clause-err : goal.returns-in_err-project-clause-err
returns-in_err-project-clause-err c =
    let fails = rw c.deref.ensures.value at c.in_err-project.ensures in
    let cause = project_refused c.args.bytes.now c.in_ok-plain.plain.items c.in_ok-plain.ensures c.in_err-project.field-0.0 fails in
    search rules
