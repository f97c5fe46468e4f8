use Rattle.std.proofs.Common.{◌≡◌, ◌≤◌, ◌<◌, take, length, get_or}
use Rattle.xls_props.specs.Values.{without_nuls}
use Rattle.xls_props.proofs.texts.len_without_nuls.Given as goal

-- what is past n is NULs
abbrev pub invariant-nuls : goal.invariant-nuls
invariant-nuls l = record {
  within : l.n ≤ length l.bytes;
  nul : l.n < length l.bytes → get_or l.bytes l.n 0 ≡ 0;
  prefix : without_nuls (take l.n l.bytes) ≡ without_nuls l.bytes;
}

abbrev pub decreases-nuls : goal.decreases-nuls
decreases-nuls l = l.n
