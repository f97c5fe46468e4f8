use Rattle.std.proofs.Common.{◌≡◌, ◌-◌}
use Rattle.xls_shown_refs.proofs.StepLemmas.{rest_at}
use Rattle.xls_shown_refs.proofs.steps.behind_values.Given as goal

-- behind those that are left stands what stands behind all
abbrev pub invariant-values : goal.invariant-values
invariant-values l = rest_at l.biff (l.count - l.i) l.left ≡ rest_at l.biff l.count l.fn.bytes
