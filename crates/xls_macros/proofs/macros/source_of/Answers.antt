use Rattle.std.proofs.Common.{subst, ◌∙◌, Some, None}
use Rattle.std.specs.Cow.{cow_slice_items}
use Rattle.xls_vba.specs.Modules.{module_view}
use Rattle.xls_macros.specs.Macros.{Macros, module_path}
use Rattle.xls_macros.specs.Streams.{HasStreamAt}
use Rattle.xls_macros.proofs.ModuleLemmas.{module_refused}
use Rattle.xls_macros.proofs.macros.source_of.Goals as goal

pub returns-in-Ok-Some-clause-err : goal.returns-in-Ok-Some-clause-err
returns-in-Ok-Some-clause-err c =
    let m = module_view c.args.m.now in
    let stream = cow_slice_items c.in-Ok-Some.stream in
    let has = subst (λ (s : Macros). HasStreamAt s.compound (module_path s m) (Some stream)) c.macros.view_is
    (rw (c.in-Ok-Some.field-0-is, c.deref.ensures.value, c.as_str-name.ensures.value) at c.in-Ok-Some.ensures.ok) in
    module_refused c.args.macros.now m stream c.source_from.result has (rw c.as_slice.ensures.value at c.source_from.ensures.err)

pub returns-in_ok-from_str-in-Ok-None-clause-err : goal.returns-in_ok-from_str-in-Ok-None-clause-err
returns-in_ok-from_str-in-Ok-None-clause-err c =
    let m = module_view c.args.m.now in
    let none = subst (λ (s : Macros). HasStreamAt s.compound (module_path s m) None) c.macros.view_is
    (rw (c.in-Ok-None.field-0-is, c.deref.ensures.value, c.as_str-name.ensures.value) at c.in-Ok-None.ensures.ok) in
    (c.in_ok-from_str-in-Ok-None.ensures.ok ∙ c.as_str-name.ensures.value, none)
