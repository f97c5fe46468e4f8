-- RC4: a key gives a stream of bytes (the streams of RFC 6229 pin it).
use Rattle.std.specs.Prelude.{ℕ, zero, suc, ◌+◌, ◌%◌, List, length, slice_index}
use Rattle.std.specs.List.{swap, range_with_len}
use Rattle.xls_passwords.specs.declared.rc4.Rc4.{Rc4}

-- the permutation and the place j, after n steps of the key schedule
pub record Schedule : Type 0 where
  pub s : List ℕ
  pub j : ℕ

-- step i adds the byte at i and the key's byte at i to j, and exchanges the bytes at i and j
abbrev pub step : List ℕ → ℕ → Schedule → Schedule
step key i before =
    let j = (before.j + slice_index before.s i + slice_index key (i % length key)) % 256 in
    record { s = swap before.s i j; j = j }

-- from the bytes 0 to 255 in order
unfoldable pub scheduled : List ℕ → ℕ → Schedule
scheduled key zero = record { s = range_with_len 0 256; j = 0 }
scheduled key (suc i) = step key i (scheduled key i)

-- the state before the first byte of a key's stream
abbrev pub keyed : List ℕ → Rc4
keyed key = record { s = (scheduled key 256).s; i = 0; j = 0 }

-- i goes on by one, j by the byte at i, and these bytes are exchanged
abbrev pub next_state : Rc4 → Rc4
next_state c =
    let i = (c.i + 1) % 256 in
    let j = (c.j + slice_index c.s i) % 256 in
    record { s = swap c.s i j; i = i; j = j }

-- the state after n bytes
unfoldable pub state_after : Rc4 → ℕ → Rc4
state_after c zero = c
state_after c (suc n) = next_state (state_after c n)

-- the byte that a state gives: the one at the sum of those at i and j
abbrev pub output : Rc4 → ℕ
output c = slice_index c.s ((slice_index c.s c.i + slice_index c.s c.j) % 256)

-- byte n of the stream from a state on
abbrev pub stream_byte : Rc4 → ℕ → ℕ
stream_byte c n = output (state_after c (suc n))
