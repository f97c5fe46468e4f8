use Rattle.std.proofs.Common.{◌≡◌, ◌++◌, length}
use Rattle.std.specs.String.{string_bytes}
use Rattle.std.specs.Str.{encode_utf8_all}
use Rattle.xls_bytes.specs.Growth.{IsGrown}
use Rattle.xls_pages.specs.Pages.{decoded}
use Rattle.xls_pages.proofs.page.append_text.Given as goal

-- the text so far, with that of the bytes left, is the text of all
abbrev pub invariant-characters : goal.invariant-characters
invariant-characters l = record {
  so_far : string_bytes l.text ++ encode_utf8_all (decoded l.page l.rest) ≡ string_bytes l.fn.text ++ encode_utf8_all (decoded l.page l.fn.bytes);
  grown : IsGrown (string_bytes l.fn.text) (string_bytes l.text);
}

abbrev pub decreases-characters : goal.decreases-characters
decreases-characters l = length l.rest
