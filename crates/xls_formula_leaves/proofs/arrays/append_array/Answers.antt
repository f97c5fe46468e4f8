use Rattle.std.proofs.Common.{ap, ◌∙◌, ◌++◌}
use Rattle.std.specs.Str.{chars}
use Rattle.std.specs.String.{string_bytes}
use Rattle.xls_bytes.proofs.GrownLemmas.{IsGrown-trans}
use Rattle.xls_formula_leaves.proofs.ArrayLemmas.{closing, opening, whole_array}
use Rattle.xls_formula_leaves.proofs.arrays.append_array.Goals as goal

pub returns-in_err-left-clause-grown : goal.returns-in_err-left-clause-grown
returns-in_err-left-clause-grown c = IsGrown-trans _ _ _ c.append_text.ensures.grown c.append_values.ensures.grown

pub returns-in_err-append_text-2-clause-grown : goal.returns-in_err-append_text-2-clause-grown
returns-in_err-append_text-2-clause-grown c =
    IsGrown-trans _ _ _ (IsGrown-trans _ _ _ c.append_text.ensures.grown c.append_values.ensures.grown) c.append_text-2.ensures.grown

pub returns-clause-grown : goal.returns-clause-grown
returns-clause-grown c =
    IsGrown-trans _ _ _ (IsGrown-trans _ _ _ c.append_text.ensures.grown c.append_values.ensures.grown) c.append_text-2.ensures.grown

pub returns-clause-exact : goal.returns-clause-exact
returns-clause-exact c =
    let old = chars (string_bytes c.args.out.now) in
    let full = chars (string_bytes c.append_values.new.out) in
    whole_array c.args.page c.args.biff c.args.extra.now c.in_ok-size.size c.in_ok-size.values.now c.value_count-count.result old
    (chars (string_bytes c.append_text.new.out)) full
    (chars (string_bytes c.append_text-2.new.out)) c.in_ok-left.left.now c.in_ok-size.ensures.exact c.value_count-count.ensures
    (c.in_ok-append_text.ensures.ok ∙ ap (λ x. old
    ++ x) opening) c.in_ok-left.ensures.exact (c.in_ok-append_text-2.ensures.ok ∙ ap (λ x. full ++ x) closing)
