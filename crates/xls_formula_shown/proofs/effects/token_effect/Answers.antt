use Rattle.xls_formula_shown.specs.Scope.{scope_of}
use Rattle.xls_formula_shown.proofs.TokenLemmas.{other_token}
use Rattle.xls_formula_shown.proofs.WalkLemmas.{tells_over}
use Rattle.xls_formula_shown.proofs.effects.token_effect.Goals as goal

pub returns-in_default : goal.returns-in_default
returns-in_default c =
    tells_over _ c.with_extra.result _ _
    (other_token (scope_of c.args.scope.now) c.args.extra.now c.args.ptg c.in_default.not-Known c.in_default.not-ElfRadicalS c.in_default.not-MemArea) c.with_extra.ensures
