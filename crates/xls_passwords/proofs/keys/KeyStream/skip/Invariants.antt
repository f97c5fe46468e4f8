use Rattle.std.proofs.Common.{◌≡◌, ◌+◌}
use Rattle.xls_passwords.specs.Streams.{IsHere}
use Rattle.xls_passwords.proofs.keys.KeyStream.skip.Given as goal

-- so many bytes on
abbrev pub invariant-skipped : goal.invariant-skipped
invariant-skipped l = record {
  here : IsHere l.self;
  keys : l.self.keys ≡ l.fn.self.keys;
  offset : l.self.offset ≡ l.fn.self.offset + l.counter;
}
