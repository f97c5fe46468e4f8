use Rattle.std.proofs.Common.{◌≡◌, ◌-◌}
use Rattle.xls_vba.specs.Modules.{module_views, modules_from}
use Rattle.xls_vba.proofs.DirectoryLemmas.{prefixed}
use Rattle.xls_vba.proofs.modules.modules_from.Given as goal

-- the modules so far, with those of the bytes left, are all
abbrev pub invariant-modules : goal.invariant-modules
invariant-modules l = prefixed (module_views l.modules.items) (modules_from l.page (l.count - l.counter) l.rest) ≡ modules_from l.page l.count l.bytes
