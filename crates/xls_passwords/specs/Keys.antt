-- The keys of RC4 ([MS-OFFCRYPTO] 2.3.6.2) and of RC4 CryptoAPI (2.3.5.2): a password and a salt give a base,
-- and the base gives a key for each block of 1,024 bytes.
use Rattle.std.specs.Prelude.{ℕ, ◌+◌, ◌/◌, ◌%◌, ◌^◌, List, [], ◌∷◌, ◌++◌, take, replicate, bit_xor, if◌then◌else◌, ◌==◌}
use Rattle.std.specs.List.{concat, flat_map}
use Rattle.std.specs.Int.{w16, w32, to_le_bytes}
use Rattle.md5.specs.Md5.{md5}
use Rattle.sha1.specs.Sha1.{sha1}
use Rattle.xls_passwords.specs.Rc4.{keyed, stream_byte}
use Rattle.xls_passwords.specs.declared.keys.BlockKeys.{BlockKeys}
use Rattle.xls_passwords.specs.declared.keys.BlockKeys.TheVariants as keys

-- a password's units of 16 bits as bytes
abbrev pub unit_bytes : List ℕ → List ℕ
unit_bytes units = flat_map (to_le_bytes w16) units

-- of RC4: five bytes, of the hash of sixteen times five bytes of the password's hash and the salt
abbrev pub rc4_base : List ℕ → List ℕ → List ℕ
rc4_base salt units = take 5 (md5 (concat (replicate 16 (take 5 (md5 (unit_bytes units)) ++ salt))))

-- of RC4 CryptoAPI: the hash of salt and password
abbrev pub crypto_api_base : List ℕ → List ℕ → List ℕ
crypto_api_base salt units = sha1 (salt ++ unit_bytes units)

-- so many bits of a hash; 40 bits are filled up to 128 with zeros
abbrev pub sized : ℕ → List ℕ → List ℕ
sized bits hash = if bits == 40 then take 5 hash ++ replicate 11 0 else take (bits / 8) hash

-- the key of block n
abbrev pub block_key : BlockKeys → ℕ → List ℕ
block_key (keys.Rc4 base) n = md5 (base ++ to_le_bytes w32 (n % 2 ^ 32))
block_key (keys.CryptoApi bits base) n = sized bits (sha1 (base ++ to_le_bytes w32 (n % 2 ^ 32)))

-- the byte of the key streams at offset p: each block's begins anew
unfoldable pub key_byte : BlockKeys → ℕ → ℕ
key_byte k p = stream_byte (keyed (block_key k (p / 1024))) (p % 1024)

-- each byte, from offset p on, changed by its offset
abbrev pub along : (ℕ → ℕ → ℕ) → ℕ → List ℕ → List ℕ
along change p [] = []
along change p (b ∷ bytes) = change p b ∷ along change (p + 1) bytes

-- a byte and the key streams' byte at its offset
abbrev pub xored : BlockKeys → ℕ → ℕ → ℕ
xored k p b = bit_xor b (key_byte k p)
