use Rattle.std.proofs.Common.{rules, sym}
use Rattle.std.proofs.lemmas.Fn.{always_returns_same}
use Rattle.xls_range.proofs.OrderLemmas.{in_order, same_numbered}
use Rattle.xls_range.proofs.sorted.sort_numbered.Goals as goal

pub returns-clause-order : goal.returns-clause-order
returns-clause-order g c =
    in_order c.sort_unstable_by_key.new.self.items (c.sort_unstable_by_key.ensures.sorted (λ x. (x.cell.0.0, x.cell.0.1, x.number)) (always_returns_same _ _ _ (λ a r q k. search rules)))

pub returns-clause-same : goal.returns-clause-same
returns-clause-same g c = λ p.
    sym (same_numbered c.args.input.now.items c.sort_unstable_by_key.new.self.items c.sort_unstable_by_key.ensures.permutation c.requires (in_order c.sort_unstable_by_key.new.self.items (c.sort_unstable_by_key.ensures.sorted (λ x. (x.cell.0.0, x.cell.0.1, x.number)) (always_returns_same _ _ _ (λ a r q k. search rules)))) p)
