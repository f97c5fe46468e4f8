use Rattle.std.proofs.Common.{◌≡◌, ◌≤◌, ℕ, List, ◌++◌, length, map, take, take_all, sym, ap, ◌∙◌}
use Rattle.std.specs.List.{flat_map}
use Rattle.std.proofs.lemmas.List.Folds.{flat_map-map}
use Rattle.xls_readable.specs.declared.items.Member.{Member}
use Rattle.xls_readable.specs.Items.{exact_tabbed, named_of}
use Rattle.xls_readable.proofs.GrowthLemmas.{grows_text, grows_then}
use Rattle.xls_readable.proofs.exact_lines.push_all_exact.Goals as goal

-- all of them, by what they hold
all : (ms : List Member) (i : ℕ) (old new : List ℕ) → length ms ≤ i
    → new ≡ old ++ flat_map (λ (m : Member). exact_tabbed (named_of m)) (take i ms)
    → new ≡ old ++ flat_map exact_tabbed (map named_of ms)
all ms i old new l e =
    e ∙ ap (λ (l : List Member). old ++ flat_map (λ (m : Member). exact_tabbed (named_of m)) l) (take_all i ms l)
    ∙ ap (λ (t : List ℕ). old ++ t) (sym (flat_map-map exact_tabbed named_of ms))

pub returns-clause-ok : goal.returns-clause-ok
returns-clause-ok c = all c.args.members.now c.loop-member.member-index _ _ c.loop-member-test.false c.loop-member.invariant

pub returns-in_err-push_exact_tabbed-clause-grown : goal.returns-in_err-push_exact_tabbed-clause-grown
returns-in_err-push_exact_tabbed-clause-grown c = grows_then _ _ _ (grows_text _ _ _ c.loop-member.invariant) c.push_exact_tabbed.ensures.grown

pub returns-clause-grown : goal.returns-clause-grown
returns-clause-grown c = grows_text _ _ _ c.loop-member.invariant
