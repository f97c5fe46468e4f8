use Rattle.std.proofs.Common.{take}
use Rattle.md5.specs.Md5.{Holds}
use Rattle.xls_passwords.specs.Keys.{unit_bytes}
use Rattle.xls_passwords.proofs.keys.password_md5.Given as goal

-- the hasher holds the units so far
abbrev pub invariant-units : goal.invariant-units
invariant-units l = Holds l.hasher (unit_bytes (take l.unit-index l.password))
