use Rattle.std.proofs.Common.{◌≡◌, ℕ, List, [], arith, sym, ◌∙◌, ap}
use Rattle.std.specs.Str.{chars}
use Rattle.std.proofs.lemmas.List.{nil_from_length}
use Rattle.std.proofs.lemmas.Str.{chars-nil}
use Rattle.xls_operands.specs.Pieces.{with_prefix}
use Rattle.xls_operands.proofs.OperandLemmas.{with_prefix-none}
use Rattle.xls_operands.proofs.buffer.Operands.put_before.Goals as goal

-- a mark without characters changes no text
pub returns-then-is_empty : goal.returns-then-is_empty
returns-then-is_empty c =
    let none : c.args.mark.now ≡ [] = nil_from_length c.args.mark.now (grind arith) in
    sym (ap (λ (x : List ℕ). with_prefix x c.args.self.now) (ap chars none ∙ chars-nil) ∙ with_prefix-none c.args.self.now)
