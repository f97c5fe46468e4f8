use Rattle.std.proofs.Common.{◌≡◌, ◌++◌, drop, map}
use Rattle.xls_vba.specs.Modules.{module_views}
use Rattle.xls_vba.specs.Project.{module_names}
use Rattle.xls_vba.proofs.project.names_of.Given as goal

-- the names so far, with those of the modules left, are all
abbrev pub invariant-modules : goal.invariant-modules
invariant-modules l = map (λ x. x.now) l.names.items ++ module_names (module_views (drop l.module-index l.modules)) ≡ module_names (module_views l.modules)
