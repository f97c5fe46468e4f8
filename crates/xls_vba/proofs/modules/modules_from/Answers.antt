use Rattle.std.proofs.Common.{rules, ◌≡◌, ◌++◌, ◌∷◌, [], Ok, arith, ◌<◌}
use Rattle.std.proofs.lemmas.List.{map_push}
use Rattle.std.proofs.lemmas.Result.{err_from_is_err_and}
use Rattle.xls_vba.specs.Modules.{module_view, module_views, module_from, modules_from}
use Rattle.xls_vba.proofs.DirectoryLemmas.{modules_more, modules_fail, fails_as}
use Rattle.xls_vba.proofs.modules.modules_from.Goals as goal

pub modules-preserved : goal.modules-preserved
modules-preserved c =
    let step : module_from c.args.page c.modules.rest.now ≡ Ok (module_view c.in_ok-module.module, c.in_ok-module.after.now) = search rules in
    let grown : module_views c.push.new.self.items ≡ module_views c.modules.modules.items ++ module_view c.in_ok-module.module ∷ [] =
    rw c.in_ok-push.ensures.items (map_push _ c.modules.modules.items c.in_ok-module.module) in
    modules_more _ _ _ c.args.page c.args.count c.modules.counter c.modules.rest.now c.in_ok-module.after.now (module_view c.in_ok-module.module) (omega arith) step grown c.modules.invariant

pub returns-in_err-module : goal.returns-in_err-module
returns-in_err-module c =
    let p = err_from_is_err_and c.from_residual.result c.from_residual.ensures.1 in
    let below : c.modules.counter < c.args.count = omega arith in
    rw (p.1, p.2) (fails_as c.in_err-module.field-0.0 (module_from c.args.page c.modules.rest.now) (modules_from c.args.page c.args.count c.args.bytes.now) (modules_fail (module_views c.modules.modules.items) _ c.args.page c.args.count c.modules.counter c.modules.rest.now c.in_err-module.field-0.0 below c.modules.invariant) c.in_err-module.ensures)
