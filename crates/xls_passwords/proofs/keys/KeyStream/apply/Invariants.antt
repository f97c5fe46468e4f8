use Rattle.std.proofs.Common.{◌≡◌, ◌+◌, ◌++◌, take, drop}
use Rattle.xls_passwords.specs.Keys.{along, xored}
use Rattle.xls_passwords.specs.Streams.{IsHere}
use Rattle.xls_passwords.proofs.keys.KeyStream.apply.Given as goal

-- so many bytes on; those that are changed, with what the others change to, are all
abbrev pub invariant-bytes : goal.invariant-bytes
invariant-bytes l = record {
  here : IsHere l.self;
  keys : l.self.keys ≡ l.fn.self.keys;
  offset : l.self.offset ≡ l.fn.self.offset + l.b-index;
  bytes : take l.b-index l.bytes ++ along (xored l.fn.self.keys) (l.fn.self.offset + l.b-index) (drop l.b-index l.bytes)
      ≡ along (xored l.fn.self.keys) l.fn.self.offset l.fn.bytes;
}
