use Rattle.std.proofs.Common.{◌++◌, replicate}
use Rattle.std.specs.List.{concat}
use Rattle.md5.specs.Md5.{Holds}
use Rattle.xls_passwords.proofs.keys.BlockKeys.rc4.Given as goal

-- the hasher holds so many rounds
abbrev pub invariant-rounds : goal.invariant-rounds
invariant-rounds l = Holds l.hasher (concat (replicate l.counter (l.start ++ l.salt)))
