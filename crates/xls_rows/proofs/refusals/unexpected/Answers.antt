use Rattle.std.proofs.Common.{rules, append_assoc}
use Rattle.xls_rows.proofs.refusals.unexpected.Goals as goal

pub returns-in-Ok : goal.returns-in-Ok
returns-in-Ok c = rw c.in-Ok.ensures.ok (search (rules, append_assoc))
