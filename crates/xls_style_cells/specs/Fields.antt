-- Numbers at a place of a record, which may be shorter.
use Rattle.std.specs.Prelude.{ℕ, List, take, drop, length, nat_lt, if◌then◌else◌}
use Rattle.xls_bytes.specs.Numbers.{le}

-- the number that the first so many bytes are; 0 where they aren't there
abbrev pub number_of : ℕ → List ℕ → ℕ
number_of size bytes = if nat_lt (length bytes) size then 0 else le (take size bytes)

-- the 16-bit number at a place, and the one of 32 bits
abbrev pub u16_at : ℕ → List ℕ → ℕ
u16_at place bytes = number_of 2 (drop place bytes)

abbrev pub u32_at : ℕ → List ℕ → ℕ
u32_at place bytes = number_of 4 (drop place bytes)
