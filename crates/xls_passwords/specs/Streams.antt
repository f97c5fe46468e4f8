-- For the proofs: the state of the key streams at an offset.
use Rattle.std.specs.Prelude.{◌≡◌, ℕ, ◌/◌, ◌%◌}
use Rattle.xls_passwords.specs.Rc4.{keyed, state_after}
use Rattle.xls_passwords.specs.Keys.{block_key}
use Rattle.xls_passwords.specs.declared.keys.BlockKeys.{BlockKeys}
use Rattle.xls_passwords.specs.declared.keys.KeyStream.{KeyStream}
use Rattle.xls_passwords.specs.declared.passwords.Key.{Key}
use Rattle.xls_passwords.specs.declared.passwords.Key.TheVariants as keys
use Rattle.xls_passwords.specs.declared.plain.Cipher.{Cipher}
use Rattle.xls_passwords.specs.declared.plain.Cipher.TheVariants as ciphers

-- ---- the key streams

-- before the byte at offset p
unfoldable pub stream_at : BlockKeys → ℕ → KeyStream
stream_at keys p = record { keys = keys; state = state_after (keyed (block_key keys (p / 1024))) (p % 1024); offset = p }

-- the state is that of the offset
pub record IsHere (s : KeyStream) : Type 0 where
  pub same : s ≡ stream_at s.keys s.offset

-- ---- either cipher

abbrev pub cipher_key : Cipher → Key
cipher_key (ciphers.Xor stream) = keys.Xor stream.array
cipher_key (ciphers.Blocks stream) = keys.Blocks stream.keys

abbrev pub cipher_offset : Cipher → ℕ
cipher_offset (ciphers.Xor stream) = stream.offset
cipher_offset (ciphers.Blocks stream) = stream.offset

abbrev pub IsReady : Cipher → Type 0
IsReady (ciphers.Xor stream) = Unit {0}
IsReady (ciphers.Blocks stream) = IsHere stream
