use Rattle.std.proofs.Common.{◌≡◌, ◌∙◌, ◌++◌, ◌∷◌, [], ℕ, ◌+◌, List, refl, sym, ap, length}
use Rattle.std.proofs.lemmas.List.{length-append}
use Rattle.xls_lay.specs.Inside.{total, parts_of}
use Rattle.xls_lay.proofs.InsideLemmas.{total_push, parts_push}
use Rattle.xls_lay.proofs.units.UnitLists.push.Goals as goal

pub invariant_of-self-2 : goal.invariant_of-self-2
invariant_of-self-2 c =
    let sizes = c.self.inside.sizes.items in
    let run = c.self.inside.units.items in
    let part = c.args.units.now in
    let more : c.push.new.self.items ≡ sizes ++ length part ∷ [] = c.in_ok-push.ensures.items ∙ ap (λ (x : List ℕ). x ++ length part ∷ []) c.in_ok-reserve.ensures.items in
    let new : c.extend_from_slice.new.self.items ≡ run ++ part = c.in_ok-extend_from_slice.ensures.items in
    ap total more ∙ total_push sizes (length part) ∙ ap (λ (n : ℕ). n + length part) c.self.invariant
    ∙ sym (length-append run part) ∙ ap length (sym new)

pub returns-clause-ok : goal.returns-clause-ok
returns-clause-ok c =
    let sizes = c.self.inside.sizes.items in
    let run = c.self.inside.units.items in
    let part = c.args.units.now in
    let more : c.push.new.self.items ≡ sizes ++ length part ∷ [] = c.in_ok-push.ensures.items ∙ ap (λ (x : List ℕ). x ++ length part ∷ []) c.in_ok-reserve.ensures.items in
    let new : c.extend_from_slice.new.self.items ≡ run ++ part = c.in_ok-extend_from_slice.ensures.items in
    ap (λ (ns : List ℕ). parts_of ns c.extend_from_slice.new.self.items) more
    ∙ ap (λ (x : List ℕ). parts_of (sizes ++ length part ∷ []) x) new
    ∙ parts_push sizes run (length part) part c.self.invariant refl
    ∙ ap (λ (xs : List (List ℕ)). xs ++ part ∷ []) c.self.view_is
