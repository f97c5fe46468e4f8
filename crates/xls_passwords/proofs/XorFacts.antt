-- The tables of [MS-OFFCRYPTO] 2.3.7.1 and 2.3.7.2, and known passwords.
use Rattle.std.proofs.Common.{◌≡◌, ◌-◌, ◌^◌, [], ◌∷◌, map, take, replicate, refl}
use Rattle.std.specs.Prelude.{codes}
use Rattle.std.specs.List.{flat_map, range_with_len}
use Rattle.xls_passwords.specs.Xor.{password_bytes, verifier_of, with_bits, coded, key_of, padding, array_of}

-- InitialCode, for passwords of 1 to 15 bytes
initial_code : map (λ n. (coded (replicate n 0)).end) (range_with_len 1 15)
    ≡ 0xE1F0 ∷ 0x1D0F ∷ 0xCC9C ∷ 0x84C0 ∷ 0x110C ∷ 0x0E10 ∷ 0xF1CE ∷ 0x313E ∷ 0x1872 ∷ 0xE139 ∷ 0xD40F ∷ 0x84F9 ∷ 0x280C ∷ 0xA96A ∷ 0x4EC3 ∷ []
unfolding with_bits
initial_code = refl

-- XorMatrix, a row for each byte of a password of 15 bytes, and in it the bits from the lowest
xor_matrix : flat_map (λ i. map (λ bit. (coded (2 ^ bit ∷ replicate (14 - i) 0)).key) (range_with_len 0 7)) (range_with_len 0 15)
    ≡ 0xAEFC ∷ 0x4DD9 ∷ 0x9BB2 ∷ 0x2745 ∷ 0x4E8A ∷ 0x9D14 ∷ 0x2A09 ∷ 0x7B61 ∷ 0xF6C2 ∷ 0xFDA5 ∷ 0xEB6B ∷ 0xC6F7 ∷ 0x9DCF ∷ 0x2BBF ∷ 0x4563 ∷ 0x8AC6 ∷ 0x05AD ∷ 0x0B5A ∷ 0x16B4 ∷ 0x2D68 ∷ 0x5AD0 ∷ 0x0375 ∷ 0x06EA ∷ 0x0DD4 ∷ 0x1BA8 ∷ 0x3750 ∷ 0x6EA0 ∷ 0xDD40 ∷ 0xD849 ∷ 0xA0B3 ∷ 0x5147 ∷ 0xA28E ∷ 0x553D ∷ 0xAA7A ∷ 0x44D5 ∷ 0x6F45 ∷ 0xDE8A ∷ 0xAD35 ∷ 0x4A4B ∷ 0x9496 ∷ 0x390D ∷ 0x721A ∷ 0xEB23 ∷ 0xC667 ∷ 0x9CEF ∷ 0x29FF ∷ 0x53FE ∷ 0xA7FC ∷ 0x5FD9 ∷ 0x47D3 ∷ 0x8FA6 ∷ 0x0F6D ∷ 0x1EDA ∷ 0x3DB4 ∷ 0x7B68 ∷ 0xF6D0 ∷ 0xB861 ∷ 0x60E3 ∷ 0xC1C6 ∷ 0x93AD ∷ 0x377B ∷ 0x6EF6 ∷ 0xDDEC ∷ 0x45A0 ∷ 0x8B40 ∷ 0x06A1 ∷ 0x0D42 ∷ 0x1A84 ∷ 0x3508 ∷ 0x6A10 ∷ 0xAA51 ∷ 0x4483 ∷ 0x8906 ∷ 0x022D ∷ 0x045A ∷ 0x08B4 ∷ 0x1168 ∷ 0x76B4 ∷ 0xED68 ∷ 0xCAF1 ∷ 0x85C3 ∷ 0x1BA7 ∷ 0x374E ∷ 0x6E9C ∷ 0x3730 ∷ 0x6E60 ∷ 0xDCC0 ∷ 0xA9A1 ∷ 0x4363 ∷ 0x86C6 ∷ 0x1DAD ∷ 0x3331 ∷ 0x6662 ∷ 0xCCC4 ∷ 0x89A9 ∷ 0x0373 ∷ 0x06E6 ∷ 0x0DCC ∷ 0x1021 ∷ 0x2042 ∷ 0x4084 ∷ 0x8108 ∷ 0x1231 ∷ 0x2462 ∷ 0x48C4 ∷ []
unfolding with_bits
xor_matrix = refl

-- PadArray
pad_array : padding ≡ 0xBB ∷ 0xFF ∷ 0xFF ∷ 0xBA ∷ 0xFF ∷ 0xFF ∷ 0xB9 ∷ 0x80 ∷ 0x00 ∷ 0xBE ∷ 0x0F ∷ 0x00 ∷ 0xBF ∷ 0x0F ∷ 0x00 ∷ []
pad_array = refl

-- the low byte of a unit, or the high one
bytes_of_units : password_bytes (0x0041 ∷ 0x4200 ∷ 0x4443 ∷ 0x0000 ∷ []) ≡ 0x41 ∷ 0x42 ∷ 0x43 ∷ 0x00 ∷ []
bytes_of_units = refl

fifteen_bytes : password_bytes (codes "123456789012345678") ≡ codes "123456789012345"
fifteen_bytes = refl

-- the verifiers that Excel stores for these passwords, of a sheet's protection too
verifier_of_password : verifier_of (codes "password") ≡ 0x83AF
verifier_of_password = refl

verifier_of_test : verifier_of (codes "test") ≡ 0xCBEB
verifier_of_test = refl

-- key and verifier of the streams that Excel encrypts under its own password
verifier_of_default : verifier_of (codes "VelvetSweatshop") ≡ 0x9A0A
verifier_of_default = refl

key_of_default : key_of (codes "VelvetSweatshop") ≡ 0xB359
unfolding with_bits
key_of_default = refl

key_of_password : key_of (codes "password") ≡ 0x147A
unfolding with_bits
key_of_password = refl

-- an array as a script apart from this code has it
array_of_password : array_of (codes "password") ≡ 0x28 ∷ 0xD5 ∷ 0x24 ∷ 0x9D ∷ 0x34 ∷ 0xED ∷ 0x20 ∷ 0xC1 ∷ 0x07 ∷ 0xAF ∷ 0x16 ∷ 0xBA ∷ 0x16 ∷ 0xAF ∷ 0x0F ∷ 0x52 ∷ []
unfolding with_bits
array_of_password = refl

array_of_default : array_of (codes "VelvetSweatshop") ≡ 0x3C ∷ 0x5B ∷ 0xD4 ∷ 0x17 ∷ 0xF0 ∷ 0x1F ∷ 0x28 ∷ 0x13 ∷ 0xF0 ∷ 0x4B ∷ 0xB4 ∷ 0x03 ∷ 0xC4 ∷ 0x73 ∷ 0xA4 ∷ 0x20 ∷ []
unfolding with_bits
array_of_default = refl

-- the top bit of a byte counts in the verifier and in the array, and not in the key
top_bit_of_key : key_of (0xE9 ∷ []) ∷ key_of (0x69 ∷ []) ∷ [] ≡ 0x1C7F ∷ 0x1C7F ∷ []
unfolding with_bits
top_bit_of_key = refl

top_bit_of_verifier : verifier_of (0xE9 ∷ 0x80 ∷ []) ≡ 0xCD9B
top_bit_of_verifier = refl

top_bit_of_array : take 1 (array_of (0xE9 ∷ [])) ≡ 0x5A ∷ []
unfolding with_bits
top_bit_of_array = refl
