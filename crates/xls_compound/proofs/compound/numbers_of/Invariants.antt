use Rattle.std.proofs.Common.{◌≡◌, ◌++◌}
use Rattle.xls_bytes.specs.Numbers.{u32s_of}
use Rattle.xls_compound.proofs.compound.numbers_of.Given as goal

abbrev pub invariant-numbers : goal.invariant-numbers
invariant-numbers l = record {
  read : l.numbers.items ++ l.number-iterator ≡ u32s_of l.fn.bytes;
}
