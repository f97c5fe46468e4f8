use Rattle.std.proofs.Common.{sym, subst}
use Rattle.std.specs.String.{string_bytes}
use Rattle.xls_bytes.specs.Growth.{IsGrown}
use Rattle.xls_bytes.proofs.GrownLemmas.{IsGrown-refl, IsGrown-trans}
use Rattle.xls_shown_numbers.proofs.exponent.append_exponent.Goals as goal

pub returns-in-Exponent-clause-grown : goal.returns-in-Exponent-clause-grown
returns-in-Exponent-clause-grown c =
    subst (λ t. IsGrown t (string_bytes c.append_all_behind.new.text)) c.items.invariant.text
    (IsGrown-trans _ _ _ c.push_own.ensures.grown c.append_all_behind.ensures.grown)

pub returns-clause-grown : goal.returns-clause-grown
returns-clause-grown c = subst (λ t. IsGrown (string_bytes c.args.text.now) t) (sym c.items.invariant.text) (IsGrown-refl _)
