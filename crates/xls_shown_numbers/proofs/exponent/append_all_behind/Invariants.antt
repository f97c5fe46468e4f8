use Rattle.std.proofs.Common.{◌≡◌, ◌++◌, false}
use Rattle.std.specs.Str.{chars}
use Rattle.std.specs.String.{string_bytes}
use Rattle.xls_bytes.specs.Growth.{IsGrown}
use Rattle.xls_shown_numbers.specs.Exponent.{places_in, behind_from}
use Rattle.xls_shown_numbers.proofs.exponent.append_all_behind.Given as goal

abbrev pub invariant-items : goal.invariant-items
invariant-items l = record {
  shown : chars (string_bytes l.text) ++ behind_from l.plus l.exponent l.placed l.items
      ≡ chars (string_bytes l.fn.text) ++ behind_from l.plus l.exponent false l.fn.items;
  left : l.left ≡ places_in l.items;
  grown : IsGrown (string_bytes l.fn.text) (string_bytes l.text);
}
