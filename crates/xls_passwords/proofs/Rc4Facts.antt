-- Key streams of RFC 6229, section 2: bytes 0 to 15 and 240 to 255 for the key 01 to 05, and bytes 0
-- to 15 for the key 01 to 10.
use Rattle.std.proofs.Common.{◌≡◌, ℕ, List, [], ◌∷◌, map, refl}
use Rattle.std.specs.List.{range_with_len}
use Rattle.xls_passwords.specs.Rc4.{keyed, scheduled, state_after, stream_byte}

-- n bytes of a key's stream from byte at on
abbrev bytes_from : List ℕ → ℕ → ℕ → List ℕ
bytes_from key at n = map (stream_byte (keyed key)) (range_with_len at n)

key_of_40_bits : bytes_from (range_with_len 1 5) 0 16 ≡ 0xB2 ∷ 0x39 ∷ 0x63 ∷ 0x05 ∷ 0xF0 ∷ 0x3D ∷ 0xC0 ∷ 0x27 ∷ 0xCC ∷ 0xC3 ∷ 0x52 ∷ 0x4A ∷ 0x0A ∷ 0x11 ∷ 0x18 ∷ 0xA8 ∷ []
unfolding scheduled state_after
key_of_40_bits = refl

key_of_40_bits_later : bytes_from (range_with_len 1 5) 240 16 ≡ 0x28 ∷ 0xCB ∷ 0x11 ∷ 0x32 ∷ 0xC9 ∷ 0x6C ∷ 0xE2 ∷ 0x86 ∷ 0x42 ∷ 0x1D ∷ 0xCA ∷ 0xAD ∷ 0xB8 ∷ 0xB6 ∷ 0x9E ∷ 0xAE ∷ []
unfolding scheduled state_after
key_of_40_bits_later = refl

key_of_128_bits : bytes_from (range_with_len 1 16) 0 16 ≡ 0x9A ∷ 0xC7 ∷ 0xCC ∷ 0x9A ∷ 0x60 ∷ 0x9D ∷ 0x1E ∷ 0xF7 ∷ 0xB2 ∷ 0x93 ∷ 0x28 ∷ 0x99 ∷ 0xCD ∷ 0xE4 ∷ 0x1B ∷ 0x97 ∷ []
unfolding scheduled state_after
key_of_128_bits = refl
