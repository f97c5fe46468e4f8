use Rattle.std.proofs.Common.{◌≡◌, ◌++◌, encode_utf8_all, IsUtf8}
use Rattle.std.specs.Str.{chars}
use Rattle.std.specs.Str.Iter.{chars_rest}
use Rattle.std.specs.String.{string_bytes}
use Rattle.xls_macros.specs.Newlines.{lines_from, with_newlines}
use Rattle.xls_macros.proofs.newlines.with_newlines.Given as goal

-- with what stands for the characters left, the text is whole
abbrev pub invariant-chars : goal.invariant-chars
invariant-chars l = record {
  text : IsUtf8 (chars_rest l.c-iterator);
  whole : string_bytes l.text ++ encode_utf8_all (lines_from l.place (chars (chars_rest l.c-iterator))) ≡ encode_utf8_all (with_newlines (chars l.fn.source));
}
