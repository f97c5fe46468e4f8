use Rattle.std.proofs.Common.{◌≡◌, ◌++◌, length}
use Rattle.std.specs.String.{string_bytes}
use Rattle.std.specs.Str.{encode_utf8_all}
use Rattle.std.specs.Char.Utf16.{utf16_lossy_chars}
use Rattle.xls_bytes.specs.Growth.{IsGrown}
use Rattle.xls_text.proofs.append.append_units.Given as goal

-- the text so far, with that of the units left, is the text of all
abbrev pub invariant-units : goal.invariant-units
invariant-units l = record {
  so_far : string_bytes l.s ++ encode_utf8_all (utf16_lossy_chars l.rest)
      ≡ string_bytes l.fn.s ++ encode_utf8_all (utf16_lossy_chars l.fn.units);
  grown : IsGrown (string_bytes l.fn.s) (string_bytes l.s);
}

abbrev pub decreases-units : goal.decreases-units
decreases-units l = length l.rest
