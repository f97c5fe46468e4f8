use Rattle.xls_vba.specs.Modules.{module_view}
use Rattle.xls_macros.proofs.LineLemmas.{damaged_read}
use Rattle.xls_macros.proofs.lines.push_module.Goals as goal

pub returns-in-Err : goal.returns-in-Err
returns-in-Err c =
    damaged_read c.args.form c.args.macros.now (module_view c.args.m.now) c.in-Err.fault _ _ c.push_fault.result c.in-Err.ensures.err
    c.push_fault.ensures.fault (rw c.as_str-name.ensures.value at c.push_fault.ensures.line)
