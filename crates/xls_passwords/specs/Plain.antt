-- The plain stream of an encrypted one ([MS-XLS] 2.2.10; [MS-OFFCRYPTO] 2.3.5 to 2.3.7): of the same length.
use Rattle.std.specs.Prelude.{ℕ, ◌+◌, ◌%◌, List, ◌∷◌, ◌++◌, take, drop, length, replicate, slice_index, bit_xor, ◌==◌, if◌then◌else◌}
use Rattle.std.specs.List.{list_any}
use Rattle.std.specs.Int.{w8, rotate_left}
use Rattle.xls_stream.specs.declared.types.TheConstants as types
use Rattle.xls_passwords.specs.Keys.{along, xored}
use Rattle.xls_passwords.specs.Records.{Records, rest, record_at, typ_of, size_of, records_of}
use Rattle.xls_passwords.specs.declared.plain.TheConstants as constants
use Rattle.xls_passwords.specs.declared.passwords.Key.{Key}
use Rattle.xls_passwords.specs.declared.passwords.Key.TheVariants as keys

-- how many bytes at the front of a body aren't encrypted: all of some types, and the offset in a BoundSheet8
abbrev pub kept_len : ℕ → ℕ → ℕ
kept_len typ size =
    if list_any (λ t. t == typ) constants.PLAIN_TYPES then size
    else if typ == types.BOUND_SHEET_8 then 4
    else 0

-- a byte at offset p of the stream, in a body of this size
abbrev pub plain_byte : Key → ℕ → ℕ → ℕ → ℕ
plain_byte (keys.Xor array) size p b = bit_xor (rotate_left w8 b 3) (slice_index array ((p + size) % 16))
plain_byte (keys.Blocks block_keys) size p b = xored block_keys p b

-- a body at offset p, of a type and a size by its header
abbrev pub plain_body : Key → ℕ → ℕ → ℕ → List ℕ → List ℕ
plain_body key p typ size body =
    let kept = kept_len typ size in
    take kept body ++ along (plain_byte key size) (p + kept) (drop kept body)

-- records behind a FilePass
abbrev pub decrypted : Key → Records → List ℕ
decrypted key (rest bytes) = bytes
decrypted key (record_at offset head body others) =
    head ++ plain_body key (offset + 4) (typ_of head) (size_of head) body ++ decrypted key others

-- the first FilePass becomes a record of type 0000 and zeros; up to it nothing is encrypted, and behind it all
-- records are
abbrev pub plain_in : Key → Records → List ℕ
plain_in key (rest bytes) = bytes
plain_in key (record_at offset head body others) =
    if typ_of head == types.FILE_PASS then 0 ∷ 0 ∷ drop 2 head ++ replicate (length body) 0 ++ decrypted key others
    else head ++ body ++ plain_in key others

abbrev pub plain : Key → List ℕ → List ℕ
plain key stream = plain_in key (records_of stream)
