use Rattle.std.proofs.Common.{◌≡◌, ℕ, ◌+◌, List, drop, sym, ◌∙◌, ap, arith}
use Rattle.std.proofs.lemmas.List.{drop-drop}
use Rattle.xls_shown_ptg.specs.Reading.{shown_of}
use Rattle.xls_shown_refs.specs.Counts.{counted}
use Rattle.xls_shown_refs.proofs.CountLemmas.{counted_one}
use Rattle.xls_shown_refs.proofs.spelled.operand_count.Goals as goal

pub tokens-preserved : goal.tokens-preserved
tokens-preserved c =
    let more = c.in_ok-token.more in
    let left : c.split_at-in-tokens.result.1.now ≡ drop (1 + more) c.tokens.rest.now =
    c.split_at-in-tokens.ensures.back ∙ (ap (drop more) c.split_at.ensures.back ∙ drop-drop more 1 c.tokens.rest.now) in
    record {
      so_far =
          ap (λ (x : List ℕ). counted c.args.biff x 0 c.in_ok-step.behind.now c.in_ok-count.count) left
          ∙ (sym (counted_one c.args.biff c.tokens.rest.now c.tokens.left.now c.tokens.count (shown_of c.in_ok-token.token) more c.in_ok-step.step
          c.in_ok-step.behind.now c.in_ok-count.count (omega arith) c.in_ok-token.ensures.exact c.in_ok-step.ensures c.in_ok-count.ensures.exact)
          ∙ c.tokens.invariant.so_far);
      within = omega (arith, c.tokens.invariant.within, c.in_ok-count.ensures.within, c.split_at.ensures.back_len, c.split_at-in-tokens.ensures.back_len);
    }
