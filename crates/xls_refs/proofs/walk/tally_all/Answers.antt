use Rattle.std.proofs.Common.{◌≡◌, ℕ, List, ◌+◌, drop, length, sym, ◌∙◌, ap, arith, length-drop, map}
use Rattle.std.proofs.lemmas.List.{drop-drop}
use Rattle.xls_formula.specs.Fold.{walk_tokens}
use Rattle.xls_formula.specs.Holding.{scope_context, effect_of}
use Rattle.xls_formula.proofs.WalkLemmas.{walk_one}
use Rattle.xls_refs.specs.Steps.{key_cite, tally}
use Rattle.xls_refs.proofs.walk.tally_all.Goals as goal

pub tokens-preserved : goal.tokens-preserved
tokens-preserved c =
    let l = c.tokens in
    let left : c.split_at-in-tokens.result.1.now ≡ drop (1 + c.in_ok-effect.more) l.rest.now =
    c.split_at-in-tokens.ensures.back ∙ (ap (drop c.in_ok-effect.more) c.split_at.ensures.back ∙ drop-drop c.in_ok-effect.more 1 l.rest.now) in
    let size : length c.split_at-in-tokens.result.1.now ≡ length (drop (1 + c.in_ok-effect.more) l.rest.now) = ap length left in
    let fewer = length-drop (1 + c.in_ok-effect.more) l.rest.now in
    let within = c.in_ok-count.ensures.within in
    let room = l.invariant.0 in
    let some = c.in_ok-effect.ensures.within in (
      omega (arith, size, fewer, within, room, some),
      l.invariant.1
          ∙ (walk_one (scope_context c.args.scope) tally l.rest.now (l.count, map key_cite l.cites.items) (c.in_ok-count.count, map key_cite c.tally.new.cites.items) (effect_of c.in_ok-effect.effect) c.in_ok-effect.more (grind arith) c.in_ok-effect.ensures.exact c.in_ok-count.ensures.exact
          ∙ ap (λ (x : List ℕ). walk_tokens (scope_context c.args.scope) tally x 0 (c.in_ok-count.count, map key_cite c.tally.new.cites.items)) (sym left)),
    )
