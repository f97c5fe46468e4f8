use Rattle.std.proofs.Common.{◌≡◌, ◌<◌, ℕ, length, get_or}
use Rattle.xls_passwords.specs.Rc4.{scheduled}
use Rattle.xls_passwords.proofs.rc4.Rc4.new.Given as goal

-- the bytes so far are in order
abbrev pub invariant-bytes : goal.invariant-bytes
invariant-bytes l = record {
  len : length l.s ≡ 256;
  ordered : (k : ℕ) → k < l.i → get_or l.s k 0 ≡ k;
}

-- so many steps of the key schedule
abbrev pub invariant-steps : goal.invariant-steps
invariant-steps l = record {
  s : l.s ≡ (scheduled l.key l.i).s;
  j : l.j ≡ (scheduled l.key l.i).j;
}
