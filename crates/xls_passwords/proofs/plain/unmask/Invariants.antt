use Rattle.std.proofs.Common.{◌≡◌, ◌+◌, ◌%◌, ◌++◌, take, drop}
use Rattle.xls_passwords.specs.Keys.{along}
use Rattle.xls_passwords.specs.Plain.{plain_byte}
use Rattle.xls_passwords.specs.declared.passwords.Key.TheVariants as keys
use Rattle.xls_passwords.proofs.plain.unmask.Given as goal

-- those that are decrypted, with what the others decrypt to, are all
abbrev pub invariant-bytes : goal.invariant-bytes
invariant-bytes l = record {
  place : l.place ≡ (l.offset + l.b-index + l.size) % 16;
  bytes : take l.b-index l.bytes ++ along (plain_byte (keys.Xor l.array) l.size) (l.offset + l.b-index) (drop l.b-index l.bytes)
      ≡ along (plain_byte (keys.Xor l.array) l.size) l.offset l.fn.bytes;
}
