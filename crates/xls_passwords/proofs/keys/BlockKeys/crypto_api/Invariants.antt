use Rattle.std.proofs.Common.{◌++◌, take}
use Rattle.sha1.specs.Sha1.{Holds}
use Rattle.xls_passwords.specs.Keys.{unit_bytes}
use Rattle.xls_passwords.proofs.keys.BlockKeys.crypto_api.Given as goal

-- the hasher holds the salt and the units so far
abbrev pub invariant-units : goal.invariant-units
invariant-units l = Holds l.hasher (l.salt ++ unit_bytes (take l.unit-index l.password))
