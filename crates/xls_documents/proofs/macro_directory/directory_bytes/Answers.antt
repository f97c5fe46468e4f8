use Rattle.xls_documents.proofs.DirectoryLemmas.{directory_item, directory_refused}
use Rattle.xls_documents.proofs.macro_directory.directory_bytes.Goals as goal

pub returns-in-Ok-clause-ok : goal.returns-in-Ok-clause-ok
returns-in-Ok-clause-ok c =
    let first = rw c.in-Some.is at c.in_ok-entry.ensures in
    let found = directory_item c.args.compound.now c.in-Some.entry first.0 first.1 first.2 in
    (found.0, found.1, c.in-Ok.ensures.ok found.0 found.2)

pub returns-in-Err-clause-err : goal.returns-in-Err-clause-err
returns-in-Err-clause-err c =
    let first = rw c.in-Some.is at c.in_ok-entry.ensures in
    let found = directory_item c.args.compound.now c.in-Some.entry first.0 first.1 first.2 in
    let cause = directory_refused c.args.compound.now found.0 found.1 c.in-Err.error (c.in-Err.ensures.err found.0 found.2) in
    rw (c.from-in-Err.ensures, c.from.ensures) cause
