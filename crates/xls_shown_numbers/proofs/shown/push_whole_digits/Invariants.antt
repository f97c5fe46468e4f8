use Rattle.std.proofs.Common.{◌≡◌, ◌≤◌, ◌++◌}
use Rattle.std.specs.String.{string_bytes}
use Rattle.std.specs.Str.{chars}
use Rattle.xls_bytes.specs.Growth.{IsGrown}
use Rattle.xls_shown_numbers.specs.Numbers.{value}
use Rattle.xls_shown_numbers.specs.Plain.{whole_digits}
use Rattle.xls_shown_numbers.proofs.shown.push_whole_digits.Given as goal

abbrev pub invariant-digits : goal.invariant-digits
invariant-digits l = record {
  shown : chars (string_bytes l.text) ++ whole_digits l.plain.grouping (value l.n) l.plain.seen.decimals l.i l.left
      ≡ chars (string_bytes l.fn.text) ++ whole_digits l.plain.grouping (value l.n) l.plain.seen.decimals l.i l.count;
  grown : IsGrown (string_bytes l.fn.text) (string_bytes l.text);
  within : l.left ≤ l.count;
}

abbrev pub decreases-digits : goal.decreases-digits
decreases-digits l = l.left
