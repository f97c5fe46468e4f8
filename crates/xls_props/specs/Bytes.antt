-- Numbers at a place in bytes, None where the bytes end early.
use Rattle.std.specs.Prelude.{ℕ, ◌+◌, List, length, take, drop, Option, Some, None, nat_lt, if◌then◌else◌, ℤ}
use Rattle.std.specs.Option.{option_map}
use Rattle.xls_bytes.specs.Numbers.{le, twos_complement}

-- the bytes from a place on, where n or more are there
abbrev pub rest_at : List ℕ → ℕ → ℕ → Option (List ℕ)
rest_at bytes at n = if nat_lt (length bytes) (at + n) then None else Some (drop at bytes)

-- the n bytes at a place
abbrev pub bytes_at : List ℕ → ℕ → ℕ → Option (List ℕ)
bytes_at bytes at n = option_map (take n) (rest_at bytes at n)

-- numbers at a place, with 16, 32 and 64 bits, the signed ones in two's complement
abbrev pub u16_at : List ℕ → ℕ → Option ℕ
u16_at bytes at = option_map (λ rest. le (take 2 rest)) (rest_at bytes at 2)

abbrev pub i16_at : List ℕ → ℕ → Option ℤ
i16_at bytes at = option_map (λ rest. twos_complement 16 (le (take 2 rest))) (rest_at bytes at 2)

abbrev pub u32_at : List ℕ → ℕ → Option ℕ
u32_at bytes at = option_map (λ rest. le (take 4 rest)) (rest_at bytes at 4)

abbrev pub i32_at : List ℕ → ℕ → Option ℤ
i32_at bytes at = option_map (λ rest. twos_complement 32 (le (take 4 rest))) (rest_at bytes at 4)

abbrev pub u64_at : List ℕ → ℕ → Option ℕ
u64_at bytes at = option_map (λ rest. le (take 8 rest)) (rest_at bytes at 8)
