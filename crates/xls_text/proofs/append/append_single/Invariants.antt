use Rattle.std.proofs.Common.{◌≡◌, ◌++◌, map, length}
use Rattle.std.specs.String.{string_bytes}
use Rattle.std.specs.Str.{encode_utf8_all}
use Rattle.xls_text.specs.Pages.{byte_character}
use Rattle.xls_bytes.specs.Growth.{IsGrown}
use Rattle.xls_text.proofs.append.append_single.Given as goal

-- the text so far, with that of the bytes left, is the text of all
abbrev pub invariant-stretches : goal.invariant-stretches
invariant-stretches l = record {
  so_far : string_bytes l.s ++ encode_utf8_all (map (byte_character l.is_windows_1252) l.rest)
      ≡ string_bytes l.fn.s ++ encode_utf8_all (map (byte_character l.is_windows_1252) l.fn.bytes);
  grown : IsGrown (string_bytes l.fn.s) (string_bytes l.s);
}

abbrev pub decreases-stretches : goal.decreases-stretches
decreases-stretches l = length l.rest
