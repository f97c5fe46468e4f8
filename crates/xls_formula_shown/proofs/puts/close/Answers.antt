use Rattle.std.proofs.Common.{◌∙◌, ℕ, List, ap, codes, ◌++◌}
use Rattle.std.specs.Str.{chars}
use Rattle.xls_formula_shown.specs.Steps.{changed}
use Rattle.xls_formula_shown.proofs.PutLemmas.{closed_thrice}
use Rattle.xls_formula_shown.proofs.puts.close.Goals as goal

pub returns : goal.returns
unfolding chars
returns c =
    let before = chars c.before-2.result.now in
    let closing = chars c.closing.result.now in
    c.in_ok-put_after-2.ensures
    ∙ (ap (changed (λ t. t ++ codes ")")) c.in_ok-put_after.ensures
    ∙ (ap (λ x. changed (λ t. t ++ codes ")") (changed (λ t. t ++ closing) x)) c.in_ok-put_before.ensures
    ∙ (closed_thrice before closing (codes ")") c.args.stack.now
    ∙ (ap (λ (x : List ℕ). changed (λ t. x ++ (t ++ (closing ++ codes ")"))) c.args.stack.now) c.before-2.ensures
    ∙ ap (λ (x : List ℕ). changed (λ t. c.args.waiting.now.before ++ (t ++ (x ++ codes ")"))) c.args.stack.now) c.closing.ensures))))
