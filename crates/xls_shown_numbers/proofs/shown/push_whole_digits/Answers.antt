use Rattle.std.proofs.Common.{◌<◌, ◌-◌, ◌++◌, ◌∷◌, [], arith, ap, sym, ◌∙◌}
use Rattle.std.specs.String.{string_bytes}
use Rattle.std.specs.Str.{chars}
use Rattle.xls_bytes.proofs.GrownLemmas.{IsGrown-trans}
use Rattle.xls_shown_numbers.specs.Numbers.{value}
use Rattle.xls_shown_numbers.proofs.ShownLemmas.{digits_more, left_digits}
use Rattle.xls_shown_numbers.proofs.shown.push_whole_digits.Goals as goal

pub returns-in_err-push_digit-clause-grown : goal.returns-in_err-push_digit-clause-grown
returns-in_err-push_digit-clause-grown c = IsGrown-trans _ _ _ c.digits.invariant.grown c.push_digit.ensures.grown

pub digits-preserved : goal.digits-preserved
digits-preserved c =
    let plain = c.args.plain.now in
    let some : 0 < c.digits.left = omega (arith, c.digits-test.true) in
    record {
      shown = digits_more plain.grouping (value c.args.n) plain.seen.decimals c.args.i (c.digits.left - 1) _ (chars (string_bytes c.digits.text)) (chars (string_bytes c.push_digit.new.text)) (chars (string_bytes c.push_own.new.text))
          (c.in_ok-push_digit.ensures.ok ∙ ap (λ d. chars (string_bytes c.digits.text) ++ d ∷ []) c.digit.ensures.value)
          (c.in_ok-push_own.ensures.ok ∙ ap (λ t. chars (string_bytes c.push_digit.new.text) ++ t) c.separator.ensures)
          (sym (ap (λ t. chars (string_bytes c.digits.text) ++ t) (left_digits plain.grouping (value c.args.n) plain.seen.decimals c.args.i c.digits.left some)) ∙ c.digits.invariant.shown);
      grown = IsGrown-trans _ _ _ c.digits.invariant.grown (IsGrown-trans _ _ _ c.push_digit.ensures.grown c.push_own.ensures.grown);
      within = omega (arith, c.digits.invariant.within);
    }

pub returns-in_err-push_own-clause-grown : goal.returns-in_err-push_own-clause-grown
returns-in_err-push_own-clause-grown c =
    IsGrown-trans _ _ _ c.digits.invariant.grown (IsGrown-trans _ _ _ c.push_digit.ensures.grown c.push_own.ensures.grown)
