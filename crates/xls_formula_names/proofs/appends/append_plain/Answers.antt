use Rattle.std.proofs.Common.{◌+◌, ◌<◌, ℕ, List, [], Bor, IsUtf8, drop, get_or, length, refl, rules}
use Rattle.std.specs.Str.{chars}
use Rattle.std.specs.String.{string_bytes}
use Rattle.std.proofs.lemmas.Str.{IsUtf8-string_bytes}
use Rattle.xls_bytes.proofs.GrownLemmas.{IsGrown-append}
use Rattle.xls_formula_names.specs.Parts.{joined}
use Rattle.xls_formula_names.proofs.AppendLemmas.{chars_more, left_more, parts_left}
use Rattle.xls_formula_names.proofs.appends.append_plain.Goals as goal

pub parts-preserved : goal.parts-preserved
parts-preserved c =
    let parts = c.args.parts.now in
    let none : Bor (List ℕ) = record { ref_ptr = (0, 0); now = [] } in
    let within : c.parts.part-index < length parts = search rules in
    let utf8 : IsUtf8 (get_or parts c.parts.part-index none).now = search rules in
    let pushed = c.in_ok-push_str.ensures.bytes in
    let text = chars_more (string_bytes c.parts.out) (get_or parts c.parts.part-index none).now (string_bytes c.push_str.new.self) _ (IsUtf8-string_bytes c.parts.out) pushed refl in
    record {
      so_far = left_more (chars (string_bytes c.parts.out)) _ _ (chars (get_or parts c.parts.part-index none).now) (joined (drop (c.parts.part-index + 1) parts)) (joined (drop c.parts.part-index parts))
          (parts_left parts c.parts.part-index none within) text c.parts.invariant.so_far;
      grown = IsGrown-append _ _ _ _ c.parts.invariant.grown utf8 pushed;
    }
