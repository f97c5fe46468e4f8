use Rattle.std.proofs.Common.{◌≡◌, ◌++◌, length}
use denote.Text.{Utf8}
use denote.Shadow.{shadow}
use Rattle.std.specs.List.{flat_map}
use Rattle.std.specs.String.{string_bytes}
use Rattle.json.specs.Print.{escape_byte}
use Rattle.xls_readable.specs.Growth.{GrowsText}
use Rattle.xls_readable.proofs.json_lines.push_escapes.Given as goal

-- what is written, and the bytes that are left, escaped, are the whole
abbrev pub invariant-stretches : goal.invariant-stretches
invariant-stretches l =
    shadow (Utf8 l.rest) ×
    (string_bytes l.buf ++ flat_map escape_byte l.rest
    ≡ string_bytes l.fn.buf ++ flat_map escape_byte l.text) ×
    GrowsText (string_bytes l.fn.buf) (string_bytes l.buf)

abbrev pub decreases-stretches : goal.decreases-stretches
decreases-stretches l = length l.rest
