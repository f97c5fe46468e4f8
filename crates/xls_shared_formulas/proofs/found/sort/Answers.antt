use Rattle.std.proofs.Common.{rules}
use Rattle.std.proofs.lemmas.List.Sorted.{IsNonDecreasingBy-from_sort_by_key, answers_always}
use Rattle.xls_shared_formulas.specs.Found.{anchor_number}
use Rattle.xls_shared_formulas.proofs.FoundLemmas.{same_last}
use Rattle.xls_shared_formulas.proofs.found.sort.Goals as goal

pub returns-clause-order : goal.returns-clause-order
returns-clause-order c = IsNonDecreasingBy-from_sort_by_key anchor_number _ c.in_ok-sort_by_key.ensures.sorted (λ a r q k. search rules)

pub returns-clause-last : goal.returns-clause-last
returns-clause-last c =
    same_last _ _ (c.in_ok-sort_by_key.ensures.stable anchor_number (answers_always _ _ _ (λ f a r g h. search rules)))
