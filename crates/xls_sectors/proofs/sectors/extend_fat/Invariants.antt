use Rattle.std.proofs.Common.{◌≡◌, ◌≤◌, ◌++◌, take, vec_len}
use Rattle.xls_bytes.specs.Numbers.{u32s_of}
use Rattle.xls_sectors.proofs.sectors.extend_fat.Given as goal

-- the numbers so far, and those that are left
abbrev pub invariant-numbers : goal.invariant-numbers
invariant-numbers l = (vec_len l.fat ≤ l.most) × (take l.most (l.fat.items ++ l.number-iterator) ≡ take l.most (l.fn.fat.items ++ u32s_of l.bytes))
