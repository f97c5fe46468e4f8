use Rattle.std.proofs.Common.{◌++◌, ℕ, List, ◌∙◌, ap}
use Rattle.xls_bytes.specs.Numbers.{u32s_of}
use Rattle.xls_compound.proofs.NumberLemmas.{u32s_of_whole}
use Rattle.xls_compound.proofs.compound.numbers_of.Goals as goal

pub numbers-init : goal.numbers-init
numbers-init c = record {
  read = ap (λ (xs : List ℕ). xs ++ c.into_iter-number-iterator.result) c.in_ok-numbers.ensures.items
      ∙ c.into_iter-number-iterator.ensures.into_iter_gives ∙ c.to_u32-number-items.ensures
      ∙ ap u32s_of c.split_at.ensures.front ∙ u32s_of_whole c.args.bytes.now;
}
