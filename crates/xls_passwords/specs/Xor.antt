-- XOR obfuscation, method 1 ([MS-OFFCRYPTO] 2.3.7.1 to 2.3.7.3): the key, the verifier and the array of a
-- password.
use Rattle.std.specs.Prelude.{ℕ, zero, suc, ◌+◌, ◌*◌, ◌/◌, ◌%◌, ◌^◌, List, [], ◌∷◌, ◌++◌, map, take, length, reverse, slice_index, bit_xor, if◌then◌else◌, ◌==◌}
use Rattle.std.specs.List.{fold, range_with_len}
use Rattle.std.specs.Int.{w8, w16, rotate_left}
use Rattle.xls_passwords.specs.declared.xor.XorKey.{XorKey}

-- ---- the bytes of a password

-- of a unit the low byte, or the high byte where the low one is 0
abbrev pub unit_byte : ℕ → ℕ
unit_byte u = if u % 256 == 0 then u / 256 else u % 256

-- at most 15 bytes
abbrev pub password_bytes : List ℕ → List ℕ
password_bytes units = take 15 (map unit_byte units)

-- ---- the verifier

-- 15 bits turned left by one
abbrev pub turned_15 : ℕ → ℕ
turned_15 n = n % 2 ^ 14 * 2 + n / 2 ^ 14

abbrev pub with_verified : ℕ → ℕ → ℕ
with_verified verifier byte = bit_xor (turned_15 verifier) byte

-- from the last byte to the first, and then their number
abbrev pub verifier_of : List ℕ → ℕ
verifier_of bytes = bit_xor (with_verified (fold with_verified 0 (reverse bytes)) (length bytes)) 0xCE4B

-- ---- the key

-- 16 bits turned left by one, and where the lowest one is then set, xor 1020: in this way each number
-- of InitialCode and XorMatrix follows from the one before it
abbrev pub lowered : ℕ → ℕ
lowered n = if n % 2 == 1 then bit_xor n 0x1020 else n

abbrev pub next_code : ℕ → ℕ
next_code n = lowered (rotate_left w16 n 1)

-- a bit, which counts with the element after base
abbrev pub with_bit : ℕ → XorKey → XorKey
with_bit bit k =
    let base = next_code k.base in
    record { base = base; end = next_code k.end; key = (if bit == 1 then bit_xor k.key base else k.key) }

-- so many bits, from the lowest
unfoldable pub with_bits : ℕ → ℕ → XorKey → XorKey
with_bits zero bits k = k
with_bits (suc n) bits k = with_bits n (bits / 2) (with_bit (bits % 2) k)

-- the top bit of a byte doesn't count
abbrev pub with_byte : XorKey → ℕ → XorKey
with_byte k byte = with_bits 8 (byte % 128) k

-- from the last byte to the first
abbrev pub coded : List ℕ → XorKey
coded bytes = fold with_byte (record { base = 0x8000; end = 0xFFFF; key = 0 }) (reverse bytes)

abbrev pub key_of : List ℕ → ℕ
key_of bytes = bit_xor (coded bytes).key (coded bytes).end

-- ---- the array

-- what stands behind the bytes of a password
abbrev pub padding : List ℕ
padding =
    0xBB ∷ 0xFF ∷ 0xFF ∷ 0xBA ∷ 0xFF ∷ 0xFF ∷ 0xB9 ∷ 0x80 ∷ 0x00 ∷ 0xBE ∷ 0x0F ∷ 0x00 ∷ 0xBF ∷ 0x0F ∷ 0x00 ∷ []

-- byte i is xored with the low byte of the key where i is even, else with the high one, and turned left by two
abbrev pub array_byte : List ℕ → ℕ → ℕ → ℕ
array_byte filled key i =
    rotate_left w8 (bit_xor (slice_index filled i) (if i % 2 == 0 then key % 256 else key / 256)) 2

abbrev pub array_of : List ℕ → List ℕ
array_of bytes = map (array_byte (bytes ++ padding) (key_of bytes)) (range_with_len 0 16)
