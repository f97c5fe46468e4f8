use Rattle.xls_vba.specs.Modules.{module_view}
use Rattle.xls_macros.proofs.LineLemmas.{part_read}
use Rattle.xls_macros.proofs.lines.push_named.Goals as goal

pub returns-in-Ok : goal.returns-in-Ok
returns-in-Ok c =
    part_read c.args.form c.args.macros.now c.args.name.now (module_view c.in-Ok.m) _ _ c.push_module.result c.in-Ok.ensures.found c.push_module.ensures
