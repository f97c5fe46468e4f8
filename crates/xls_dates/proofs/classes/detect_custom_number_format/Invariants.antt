use Rattle.std.proofs.Common.{◌≡◌, ◌≤◌, ◌+◌, map, length, IsUtf8}
use Rattle.std.specs.Char.{to_ascii_lowercase}
use Rattle.std.specs.Str.{chars}
use Rattle.std.specs.Str.Iter.{chars_rest}
use Rattle.xls_dates.specs.Classes.{class_of}
use Rattle.xls_dates.specs.Walk.{class_left}
use Rattle.xls_dates.proofs.classes.detect_custom_number_format.Given as goal

-- the class of the characters left, from what the walk knows, is that of all
abbrev pub invariant-chars : goal.invariant-chars
invariant-chars l = record {
  text : IsUtf8 (chars_rest l.c-iterator);
  depth : l.walk.depth + length (chars_rest l.c-iterator) ≤ length l.fn.format;
  class : class_left l.walk (map to_ascii_lowercase (chars (chars_rest l.c-iterator))) ≡ class_of (chars l.fn.format);
}
