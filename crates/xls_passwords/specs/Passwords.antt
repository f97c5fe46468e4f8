-- Which password fits ([MS-OFFCRYPTO] 2.3.6.4, 2.3.5.6 and 2.3.7.4), and the key of the stream that it gives.
use Rattle.std.specs.Prelude.{ℕ, List, length, Bool, not, ◌&&◌, ◌==◌, if◌then◌else◌, Option, Some, None}
use Rattle.std.specs.Str.{bytes_eq}
use Rattle.md5.specs.Md5.{md5}
use Rattle.sha1.specs.Sha1.{sha1}
use Rattle.xls_passwords.specs.Keys.{rc4_base, crypto_api_base, along, xored}
use Rattle.xls_passwords.specs.Xor.{password_bytes, key_of, verifier_of, array_of}
use Rattle.xls_passwords.specs.declared.scheme.Scheme.{Scheme}
use Rattle.xls_passwords.specs.declared.scheme.Scheme.TheVariants as schemes
use Rattle.xls_passwords.specs.declared.keys.BlockKeys.{BlockKeys}
use Rattle.xls_passwords.specs.declared.keys.BlockKeys.TheVariants as block_keys
use Rattle.xls_passwords.specs.declared.passwords.Key.{Key}
use Rattle.xls_passwords.specs.declared.passwords.Key.TheVariants as keys

-- the first bytes of block 0 decrypt a verifier, and the bytes after them its hash
abbrev pub verifies : (List ℕ → List ℕ) → BlockKeys → List ℕ → List ℕ → Bool
verifies hash_of keys verifier hash = bytes_eq (hash_of (along (xored keys) 0 verifier)) (along (xored keys) (length verifier) hash)

-- the key of a password, whether it fits or not
abbrev pub key_of_password : Scheme → List ℕ → Key
key_of_password (schemes.Xor key verifier) units = keys.Xor (array_of (password_bytes units))
key_of_password (schemes.Rc4 salt verifier hash) units = keys.Blocks (block_keys.Rc4 (rc4_base salt units))
key_of_password (schemes.CryptoApi bits salt verifier hash) units =
    keys.Blocks (block_keys.CryptoApi bits (crypto_api_base salt units))

-- an empty password fits no XOR obfuscation
abbrev pub fits : Scheme → List ℕ → Bool
fits (schemes.Xor key verifier) units =
    not (length units == 0) && key_of (password_bytes units) == key && verifier_of (password_bytes units) == verifier
fits (schemes.Rc4 salt verifier hash) units = verifies md5 (block_keys.Rc4 (rc4_base salt units)) verifier hash
fits (schemes.CryptoApi bits salt verifier hash) units =
    verifies sha1 (block_keys.CryptoApi bits (crypto_api_base salt units)) verifier hash

-- the key of a password that fits
abbrev pub key_for : Scheme → List ℕ → Option Key
key_for scheme units = if fits scheme units then Some (key_of_password scheme units) else None
