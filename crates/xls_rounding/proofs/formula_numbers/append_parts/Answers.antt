use Rattle.std.proofs.Common.{◌<◌, [], List, ℕ, Bor, IsUtf8, get_or, length, rules}
use Rattle.xls_bytes.proofs.GrownLemmas.{IsGrown-append}
use Rattle.xls_rounding.proofs.FormulaLemmas.{parts_more}
use Rattle.xls_rounding.proofs.formula_numbers.append_parts.Goals as goal

pub loop-part-preserved : goal.loop-part-preserved
loop-part-preserved c =
    let l = c.loop-part in
    let parts = c.args.parts.now in
    let none : Bor (List ℕ) = record { ref_ptr = (0, 0); now = [] } in
    let within : l.part-index < length parts = search rules in
    let utf8 : IsUtf8 (get_or parts l.part-index none).now = search rules in
    let pushed = c.in_ok-push_str.ensures.bytes in (
      parts_more _ _ _ parts l.part-index none within l.invariant.0 pushed,
      IsGrown-append _ _ _ _ l.invariant.1 utf8 pushed,
    )
