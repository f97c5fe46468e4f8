use Rattle.std.proofs.Common.{◌≡◌, ◌++◌, replicate}
use Rattle.std.specs.String.{string_bytes}
use Rattle.xls_bytes.specs.Growth.{IsGrown}
use Rattle.xls_shown_dates.proofs.texts.append_zeros.Given as goal

abbrev pub invariant-zeros : goal.invariant-zeros
invariant-zeros l = record {
  zeros : string_bytes l.text ≡ string_bytes l.fn.text ++ replicate l.i 48;
  grown : IsGrown (string_bytes l.fn.text) (string_bytes l.text);
}
