use Rattle.std.proofs.Common.{◌≡◌, List, ℕ, Bor, ◌-◌, length, take, map, sym, ap, ◌∙◌}
use Rattle.std.proofs.lemmas.List.{length-map, take-map}
use Rattle.xls_macros.proofs.macros.all_but_last.Goals as goal

pub returns : goal.returns
returns c =
    let now = λ (x : Bor (List ℕ)). x.now in
    let names = c.args.names.now in
    let at : c.saturating_sub.result ≡ length (map now names) - 1 = c.saturating_sub.ensures ∙ ap (λ (n : ℕ). n - 1) (sym (length-map names now)) in
    ap (λ (n : ℕ). map now (take n names)) at ∙ sym (take-map now (length (map now names) - 1) names)
