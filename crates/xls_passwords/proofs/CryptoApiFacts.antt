-- Keys of RC4 CryptoAPI, and passwords that fit, of a script apart from this code.
use Rattle.std.proofs.Common.{◌≡◌, ℕ, List, [], ◌∷◌, map, true, false, refl}
use Rattle.std.specs.Prelude.{codes}
use Rattle.sha1.specs.Sha1.{sha1, hash_after, compress, rounds, schedule, first_words, digest_bytes}
use Rattle.xls_passwords.specs.Rc4.{scheduled, state_after}
use Rattle.xls_passwords.specs.Keys.{crypto_api_base, block_key, key_byte}
use Rattle.xls_passwords.specs.Passwords.{fits}
use Rattle.xls_passwords.specs.declared.keys.BlockKeys.TheVariants as keys
use Rattle.xls_passwords.specs.declared.scheme.Scheme.{Scheme}
use Rattle.xls_passwords.specs.declared.scheme.Scheme.TheVariants as schemes

abbrev salt : List ℕ
salt = 0xE8 ∷ 0x77 ∷ 0x2C ∷ 0x1D ∷ 0x91 ∷ 0xC5 ∷ 0x6A ∷ 0x37 ∷ 0x96 ∷ 0x47 ∷ 0x61 ∷ 0xB2 ∷ 0x80 ∷ 0x18 ∷ 0x32 ∷ 0x17 ∷ []

-- of 128 and 56 bits, and of 40 bits with zeros behind them
keys_of_block_3 : map (λ bits. block_key (keys.CryptoApi bits (crypto_api_base salt (codes "password1"))) 3) (128 ∷ 56 ∷ 40 ∷ [])
    ≡ (0x1C ∷ 0x49 ∷ 0x2E ∷ 0xA9 ∷ 0x5F ∷ 0x87 ∷ 0x03 ∷ 0x08 ∷ 0xBC ∷ 0x3A ∷ 0x93 ∷ 0x47 ∷ 0xC6 ∷ 0xD2 ∷ 0x71 ∷ 0x83 ∷ []) ∷ (0x1C ∷ 0x49 ∷ 0x2E ∷ 0xA9 ∷ 0x5F ∷ 0x87 ∷ 0x03 ∷ []) ∷ (0x1C ∷ 0x49 ∷ 0x2E ∷ 0xA9 ∷ 0x5F ∷ 0x00 ∷ 0x00 ∷ 0x00 ∷ 0x00 ∷ 0x00 ∷ 0x00 ∷ 0x00 ∷ 0x00 ∷ 0x00 ∷ 0x00 ∷ 0x00 ∷ []) ∷ []
unfolding sha1 hash_after compress rounds schedule first_words digest_bytes
keys_of_block_3 = refl

-- the verifier 00 to 0F, encrypted under password1
abbrev scheme : Scheme
scheme = (schemes.CryptoApi 128 salt (0xA2 ∷ 0xCC ∷ 0x5D ∷ 0x18 ∷ 0x95 ∷ 0x7F ∷ 0xC7 ∷ 0x45 ∷ 0x9D ∷ 0x6A ∷ 0x48 ∷ 0xBE ∷ 0xC1 ∷ 0xB2 ∷ 0xC8 ∷ 0xFA ∷ []) (0xC0 ∷ 0xC0 ∷ 0x09 ∷ 0xC8 ∷ 0xEE ∷ 0xC5 ∷ 0x5E ∷ 0x38 ∷ 0x10 ∷ 0xD8 ∷ 0x03 ∷ 0xA5 ∷ 0xA5 ∷ 0x2B ∷ 0x76 ∷ 0xC4 ∷ 0x82 ∷ 0x80 ∷ 0x5D ∷ 0x50 ∷ []))

verifier : fits scheme (codes "password1") ≡ true
unfolding sha1 hash_after compress rounds schedule first_words digest_bytes scheduled state_after key_byte
verifier = refl

another_password : fits scheme (codes "password2") ≡ false
unfolding sha1 hash_after compress rounds schedule first_words digest_bytes scheduled state_after key_byte
another_password = refl
