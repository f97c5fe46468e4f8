-- Numbers as bytes, the lowest byte first ([MS-XLS] stores every number so).
use Rattle.std.specs.Prelude.{ℕ, ◌+◌, ◌*◌, ◌/◌, ◌%◌, ◌^◌, ◌-◌, List, [], ◌∷◌, ℤ, pos, ◌-ℤ◌, nat_lt, if◌then◌else◌}

-- the sum of byte i times 256 ^ i
abbrev pub le : List ℕ → ℕ
le [] = 0
le (b ∷ bs) = b + 256 * le bs

-- a 16-bit number as two bytes
abbrev pub le16 : ℕ → List ℕ
le16 n = n % 256 ∷ n / 256 ∷ []

-- a number of this many bits in two's complement: from half on it stands for itself less 2 ^ bits
abbrev pub twos_complement : ℕ → ℕ → ℤ
twos_complement bits n = if nat_lt n (2 ^ (bits - 1)) then pos n else pos n -ℤ pos (2 ^ bits)

-- the numbers of each four bytes
abbrev pub u32s_of : List ℕ → List ℕ
u32s_of (a ∷ b ∷ c ∷ d ∷ bytes) = le (a ∷ b ∷ c ∷ d ∷ []) ∷ u32s_of bytes
u32s_of less = []
