-- Numbers in the body of a record. Bytes that aren't there count as 0.
use Rattle.std.specs.Prelude.{ℕ, ◌/◌, ◌%◌, ◌^◌, List, take, drop, Bool, ◌==◌}
use Rattle.xls_bytes.specs.Numbers.{le}

-- the number of 32 bits at a place
abbrev pub number_at : ℕ → List ℕ → ℕ
number_at place body = le (take 4 (drop place body))

-- A field: the place of the first byte of a number of 32 bits, its lowest bit in that number, and how many bits it has.
abbrev pub Field : Type 0
Field = ℕ × ℕ × ℕ

-- the number in a field
abbrev pub field_at : Field → List ℕ → ℕ
field_at f body = number_at f.0 body / 2 ^ f.1 % 2 ^ f.2

-- a field of one bit that is set
abbrev pub is_set : Field → List ℕ → Bool
is_set f body = field_at f body == 1
