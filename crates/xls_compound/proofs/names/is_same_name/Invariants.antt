use Rattle.std.proofs.Common.{◌≡◌}
use Rattle.std.specs.Str.{IsUtf8}
use Rattle.std.specs.Str.Iter.{chars_rest}
use Rattle.xls_compound.specs.Names.{is_same_name}
use Rattle.xls_compound.proofs.names.is_same_name.Given as goal

-- what is left of both names decides
abbrev pub invariant-chars : goal.invariant-chars
invariant-chars l = record {
  one : IsUtf8 (chars_rest l.c-iterator);
  other : IsUtf8 (chars_rest l.others);
  same : is_same_name (chars_rest l.c-iterator) (chars_rest l.others) ≡ is_same_name l.one l.other;
}
