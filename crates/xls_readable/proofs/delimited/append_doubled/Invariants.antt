use Rattle.std.proofs.Common.{◌≡◌, ◌++◌, length}
use denote.Text.{Utf8}
use denote.Shadow.{shadow}
use Rattle.std.specs.List.{flat_map}
use Rattle.std.specs.String.{string_bytes}
use Rattle.xls_bytes.specs.Growth.{IsGrown}
use Rattle.xls_readable.specs.Csv.{doubled_byte}
use Rattle.xls_readable.proofs.delimited.append_doubled.Given as goal

-- what is written, and the bytes that are left, their quotes doubled, are the whole
abbrev pub invariant-stretches : goal.invariant-stretches
invariant-stretches l =
    shadow (Utf8 l.rest) ×
    (string_bytes l.buf ++ flat_map doubled_byte l.rest
    ≡ string_bytes l.fn.buf ++ flat_map doubled_byte l.text) ×
    IsGrown (string_bytes l.fn.buf) (string_bytes l.buf)

abbrev pub decreases-stretches : goal.decreases-stretches
decreases-stretches l = length l.rest
