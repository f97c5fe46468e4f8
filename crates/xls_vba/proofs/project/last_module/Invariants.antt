use Rattle.std.proofs.Common.{◌≡◌, drop}
use Rattle.std.specs.Option.{option_or, option_map}
use Rattle.xls_vba.specs.Modules.{module_view, module_views}
use Rattle.xls_vba.specs.Project.{last_module}
use Rattle.xls_vba.proofs.project.last_module.Given as goal

-- the last of the modules left, or else what was found, is the last of all
abbrev pub invariant-modules : goal.invariant-modules
invariant-modules l = option_or (last_module l.name (module_views (drop l.module-index l.modules))) (option_map (λ m. module_view m.now) l.found) ≡ last_module l.name (module_views l.modules)
