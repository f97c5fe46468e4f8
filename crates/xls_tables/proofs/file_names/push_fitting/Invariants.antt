use Rattle.std.proofs.Common.{◌≡◌, ◌++◌, map, encode_utf8_all, IsUtf8}
use Rattle.std.specs.Str.{chars}
use Rattle.std.specs.Str.Iter.{chars_rest}
use Rattle.std.specs.String.{string_bytes}
use Rattle.xls_tables.specs.FileNames.{fitting, kept_char}
use Rattle.xls_tables.proofs.file_names.push_fitting.Given as goal

-- with what fits of the characters left, the text is whole
abbrev pub invariant-chars : goal.invariant-chars
invariant-chars l = record {
  text : IsUtf8 (chars_rest l.c-iterator);
  whole : string_bytes l.text ++ encode_utf8_all (fitting l.room (map kept_char (chars (chars_rest l.c-iterator))))
      ≡ string_bytes l.fn.text ++ encode_utf8_all (fitting 190 (map kept_char (chars l.fn.sheet)));
}
