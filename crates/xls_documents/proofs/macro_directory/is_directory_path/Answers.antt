use Rattle.std.proofs.Common.{◌≡◌, ◌≤◌, List, ℕ, Bor, ◌-◌, length, drop, take, map, sym, ap, ◌∙◌, arith}
use Rattle.std.proofs.lemmas.Grind.{common_steps}
use Rattle.std.proofs.lemmas.List.{drop-map, length-map, take_all}
use Rattle.xls_documents.specs.MacroDirectory.{are_directory_names}
use Rattle.xls_documents.proofs.macro_directory.is_directory_path.Goals as goal

pub returns : goal.returns
returns c =
    let now = λ (x : Bor (List ℕ)). x.now in
    let names = c.args.names.now in
    let k = c.saturating_sub.result in
    let fits : length (drop k names) ≤ length names - k = grind (arith, common_steps) in
    let last : take (length names - k) (drop k names) ≡ drop k names = take_all (length names - k) (drop k names) fits in
    let at : k ≡ length (map now names) - 2 = c.saturating_sub.ensures ∙ ap (λ (n : ℕ). n - 2) (sym (length-map names now)) in
    c.are_directory_names.ensures ∙ ap (λ (xs : List (Bor (List ℕ))). are_directory_names (map now xs)) last
    ∙ ap are_directory_names (sym (drop-map now k names) ∙ ap (λ (n : ℕ). drop n (map now names)) at)
