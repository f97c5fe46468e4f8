use Rattle.std.proofs.Common.{◌≡◌, ℕ, ◌+◌, List, drop, sym, ◌∙◌, ap, arith}
use Rattle.std.proofs.lemmas.List.{drop-drop}
use Rattle.xls_formula.specs.Fold.{walk_tokens}
use Rattle.xls_formula.specs.Holding.{scope_context, effect_of}
use Rattle.xls_formula.specs.buffer.Put.{put}
use Rattle.xls_formula.proofs.WalkLemmas.{walk_one}
use Rattle.xls_formula.proofs.parse.put_tokens.Goals as goal

pub tokens-preserved : goal.tokens-preserved
tokens-preserved c =
    let left : c.split_at-in-tokens.result.1.now ≡ drop (1 + c.in_ok-effect.more) c.tokens.rest.now =
    c.split_at-in-tokens.ensures.back ∙ (ap (drop c.in_ok-effect.more) c.split_at.ensures.back ∙ drop-drop c.in_ok-effect.more 1 c.tokens.rest.now) in
    c.tokens.invariant
    ∙ (walk_one (scope_context c.args.scope) put c.tokens.rest.now c.tokens.texts c.put.new.texts (effect_of c.in_ok-effect.effect) c.in_ok-effect.more (omega arith) c.in_ok-effect.ensures.exact c.in_ok-put.ensures
    ∙ ap (λ (x : List ℕ). walk_tokens (scope_context c.args.scope) put x 0 c.put.new.texts) (sym left))
