use Rattle.std.proofs.Common.{rules}
use Rattle.xls_vba.proofs.project.VbaProject.module.Goals as goal

-- no module has the name that the refusal gives
pub returns-in_default-clause-cause : goal.returns-in_default-clause-cause
returns-in_default-clause-cause c = (c.in_ok-name.ensures.ok, search rules)
