use Rattle.std.proofs.Common.{◌≡◌}
use Rattle.std.specs.String.{string_bytes}
use Rattle.xls_shown_numbers.specs.Exponent.{places_behind, exponent_from}
use Rattle.xls_shown_numbers.proofs.exponent.append_exponent.Given as goal

abbrev pub invariant-items : goal.invariant-items
invariant-items l = record {
  same : exponent_from l.exponent l.items ≡ exponent_from l.exponent l.fn.items;
  places : places_behind l.items ≡ places_behind l.fn.items;
  text : string_bytes l.text ≡ string_bytes l.fn.text;
}
