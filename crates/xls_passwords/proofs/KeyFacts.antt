-- Keys of RC4 and RC4 CryptoAPI, and passwords that fit; a published key, and those of a script apart from this
-- code.
use Rattle.std.proofs.Common.{◌≡◌, ℕ, List, [], ◌∷◌, map, true, false, refl}
use Rattle.std.specs.Prelude.{codes}
use Rattle.md5.specs.Md5.{md5, hash_after, compress, rounds, block_words, digest_bytes}
use Rattle.xls_passwords.specs.Rc4.{scheduled, state_after}
use Rattle.xls_passwords.specs.Keys.{unit_bytes, rc4_base, block_key, key_byte}
use Rattle.xls_passwords.specs.Passwords.{fits}
use Rattle.xls_passwords.specs.declared.keys.BlockKeys.TheVariants as keys
use Rattle.xls_passwords.specs.declared.scheme.Scheme.TheVariants as schemes

two_units : unit_bytes (0x0041 ∷ 0x672C ∷ []) ≡ 0x41 ∷ 0x00 ∷ 0x2C ∷ 0x67 ∷ []
two_units = refl

abbrev salt : List ℕ
salt = 0xE8 ∷ 0x77 ∷ 0x2C ∷ 0x1D ∷ 0x91 ∷ 0xC5 ∷ 0x6A ∷ 0x37 ∷ 0x96 ∷ 0x47 ∷ 0x61 ∷ 0xB2 ∷ 0x80 ∷ 0x18 ∷ 0x32 ∷ 0x17 ∷ []

-- the key of block 0 in the documentation of msoffcrypto-tool
published_key : block_key (keys.Rc4 (rc4_base salt (codes "password1"))) 0 ≡ 0x20 ∷ 0xBF ∷ 0x32 ∷ 0xDD ∷ 0xF5 ∷ 0x40 ∷ 0x85 ∷ 0x8C ∷ 0x51 ∷ 0x37 ∷ 0x44 ∷ 0xAF ∷ 0x0F ∷ 0x24 ∷ 0xE0 ∷ 0x3C ∷ []
unfolding md5 hash_after compress rounds block_words digest_bytes
published_key = refl

-- and its verifier
published_verifier : map (fits (schemes.Rc4 salt (0xC9 ∷ 0xE9 ∷ 0x97 ∷ 0xD4 ∷ 0x54 ∷ 0x97 ∷ 0x3D ∷ 0x31 ∷ 0x0B ∷ 0xB1 ∷ 0xBA ∷ 0x70 ∷ 0x14 ∷ 0x26 ∷ 0x83 ∷ 0x7E ∷ []) (0xB1 ∷ 0xDE ∷ 0x17 ∷ 0x8F ∷ 0x07 ∷ 0xE9 ∷ 0x89 ∷ 0xC4 ∷ 0x4D ∷ 0xAE ∷ 0x5E ∷ 0x4C ∷ 0xF9 ∷ 0x6A ∷ 0xC4 ∷ 0x07 ∷ []))) (codes "password1" ∷ codes "password2" ∷ []) ≡ true ∷ false ∷ []
unfolding md5 hash_after compress rounds block_words digest_bytes scheduled state_after key_byte
published_verifier = refl
