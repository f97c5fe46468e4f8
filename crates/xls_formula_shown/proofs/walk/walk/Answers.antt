use Rattle.std.proofs.Common.{◌≡◌, ℕ, ◌+◌, List, drop, sym, ◌∙◌, ap, arith}
use Rattle.std.proofs.lemmas.List.{drop-drop}
use Rattle.xls_formula_shown.specs.Scope.{scope_of}
use Rattle.xls_formula_shown.specs.ShownFold.{walk}
use Rattle.xls_formula_shown.proofs.WalkLemmas.{walk_one}
use Rattle.xls_formula_shown.proofs.walk.walk.Goals as goal

pub tokens-preserved : goal.tokens-preserved
tokens-preserved c =
    let s = scope_of c.args.scope.now in
    let left : c.split_at-in-tokens.result.1.now ≡ drop (1 + c.in_ok-more.more) c.tokens.rest.now =
    c.split_at-in-tokens.ensures.back ∙ (ap (drop c.in_ok-more.more) c.split_at.ensures.back ∙ drop-drop c.in_ok-more.more 1 c.tokens.rest.now) in
    c.tokens.invariant
    ∙ (walk_one s c.tokens.rest.now c.tokens.left.now c.tokens.state c.step.new.state c.in_ok-more.more c.in_ok-more.behind.now (omega arith) c.in_ok-more.ensures.step
    ∙ ap (λ (x : List ℕ). walk s x 0 c.in_ok-more.behind.now c.step.new.state) (sym left))
