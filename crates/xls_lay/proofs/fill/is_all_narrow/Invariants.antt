use Rattle.std.proofs.Common.{◌≡◌, drop}
use Rattle.xls_layouts.specs.Canonical.{is_narrow}
use Rattle.xls_lay.proofs.fill.is_all_narrow.Given as goal

abbrev pub invariant-loop-unit : goal.invariant-loop-unit
invariant-loop-unit l = is_narrow l.units ≡ is_narrow (drop l.unit-index l.units)
