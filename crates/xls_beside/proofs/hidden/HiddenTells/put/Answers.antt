use Rattle.std.proofs.Common.{List, ℕ, ap, map, ◌∙◌}
use Rattle.xls_hidden.specs.Hidden.{hidden_items, said_in}
use Rattle.xls_output.proofs.EachLemmas.{puts-as, puts-memory}
use Rattle.xls_beside.specs.Hidden.{hidden}
use Rattle.xls_beside.specs.Lines.{IsLineText}
use Rattle.xls_beside.proofs.hidden.HiddenTells.put.Goals as goal

pub returns-in_err-hidden : goal.returns-in_err-hidden
returns-in_err-hidden g c = puts-memory (IsLineText c.args.form) _ _ _ _ _ c.from_residual.result c.from_residual.ensures.1

pub returns : goal.returns
returns g c =
    let part = c.args.part in
    let version = c.args.self.now.version in
    let bytes = ap (λ (b : List ℕ). hidden_items version part.area (said_in version part.offset b)) c.part_at-bytes.ensures.bytes in
    puts-as (IsLineText c.args.form) _ _ c.put_items.result
    (ap (map hidden) (c.items.ensures ∙ (c.in_ok-hidden.ensures.items ∙ bytes))) c.put_items.ensures
