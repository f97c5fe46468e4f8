use Rattle.std.proofs.Common.{◌≡◌, ◌++◌}
use Rattle.std.specs.Str.{chars}
use Rattle.std.specs.List.{flat_map}
use Rattle.std.specs.String.{string_bytes}
use Rattle.xls_bytes.specs.Growth.{IsGrown}
use Rattle.xls_rounding.specs.Rounding.{decimal_of}
use Rattle.xls_shown.specs.Shown.{general_token}
use Rattle.xls_shown.proofs.numbers.append_general_items.Given as goal

abbrev pub invariant-items : goal.invariant-items
invariant-items l = record {
  shown : chars (string_bytes l.text) ++ flat_map (general_token (decimal_of l.bits)) l.items
      ≡ chars (string_bytes l.fn.text) ++ flat_map (general_token (decimal_of l.bits)) l.fn.section;
  grown : IsGrown (string_bytes l.fn.text) (string_bytes l.text);
}
