-- Streams whose records are obfuscated with a password.
use Rattle.std.specs.Prelude.{◌≡◌, ℕ, zero, suc, ◌+◌, ◌<◌, List, [], ◌∷◌, take, drop, true}
use Rattle.xls_bytes.specs.Numbers.{le}
use Rattle.xls_container.specs.Kinds.{begins_with}

-- what stands after the first record: its type and the size of its body have 2 bytes each
abbrev pub after_record : List ℕ → List ℕ
after_record bytes = drop (4 + le (take 2 (drop 2 bytes))) bytes

-- what stands after so many records
abbrev pub after_records : ℕ → List ℕ → List ℕ
after_records zero bytes = bytes
after_records (suc count) bytes = after_record (after_records count bytes)

-- a FilePass (type 002F) of 6 bytes, the first two of which are 0: XOR obfuscation ([MS-XLS] 2.4.117)
abbrev pub OBFUSCATION : List ℕ
OBFUSCATION = 0x2F ∷ 0x00 ∷ 0x06 ∷ 0x00 ∷ 0x00 ∷ 0x00 ∷ []

-- among so many records it is looked for
abbrev pub LOOKED_AT : ℕ
LOOKED_AT = 100

-- such a record is one of the first
pub record IsObfuscated (stream : List ℕ) : Type 0 where
  pub before : ℕ
  pub is_early : before < LOOKED_AT
  pub begins : begins_with OBFUSCATION (after_records before stream) ≡ true
