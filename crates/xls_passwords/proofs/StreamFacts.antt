-- The walk over the records, and plain streams; the encrypted ones are those of a script apart from this code.
use Rattle.std.proofs.Common.{◌≡◌, ℕ, List, [], ◌∷◌, ◌++◌, map, replicate, Some, None, Ok, Err, true, false, refl}
use Rattle.std.specs.Prelude.{codes}
use Rattle.std.specs.List.{range_with_len}
use Rattle.md5.specs.Md5.{md5, hash_after, compress, rounds, block_words, digest_bytes}
use Rattle.xls_stream.specs.declared.types.TheConstants as types
use Rattle.xls_passwords.specs.Rc4.{scheduled, state_after}
use Rattle.xls_passwords.specs.Xor.{with_bits}
use Rattle.xls_passwords.specs.Keys.{key_byte}
use Rattle.xls_passwords.specs.Records.{records_within, is_biff8_after, file_pass_of}
use Rattle.xls_passwords.specs.Plain.{kept_len, plain}
use Rattle.xls_passwords.specs.Opening.{opened, refusal_text}
use Rattle.xls_passwords.specs.declared.records.TheConstants as constants
use Rattle.xls_passwords.specs.declared.plain.TheConstants as plain_constants
use Rattle.xls_passwords.specs.declared.keys.BlockKeys.TheVariants as block_keys
use Rattle.xls_passwords.specs.declared.passwords.Key.TheVariants as keys
use Rattle.xls_passwords.specs.declared.scheme.FilePassFault.TheVariants as faults
use Rattle.xls_passwords.specs.declared.opening.Refusal.TheVariants as refusals

-- ---- tables

-- BOF, FilePass, InterfaceHdr, RRDHead, UsrExcl, FileLock and RRDInfo
plain_types : plain_constants.PLAIN_TYPES ≡ 0x0809 ∷ 0x002F ∷ 0x00E1 ∷ 0x0138 ∷ 0x0194 ∷ 0x0195 ∷ 0x0196 ∷ []
plain_types = refl

other_types : types.EOF ∷ types.BOUND_SHEET_8 ∷ types.BOF ∷ types.FILE_PASS ∷ [] ≡ 0x000A ∷ 0x0085 ∷ 0x0809 ∷ 0x002F ∷ []
other_types = refl

-- of a body of 9 bytes of each of these, of BoundSheet8, Continue, EOF, WriteProtect and the types beside
kept : map (λ typ. kept_len typ 9) (0x0809 ∷ 0x002F ∷ 0x00E1 ∷ 0x0138 ∷ 0x0194 ∷ 0x0195 ∷ 0x0196 ∷ 0x0085 ∷ 0x003C ∷ 0x000A ∷ 0x0086 ∷ 0x0193 ∷ 0x0197 ∷ 0x0137 ∷ 0x0139 ∷ 0x00E2 ∷ [])
    ≡ replicate 7 9 ++ 4 ∷ replicate 8 0
kept = refl

-- ---- FilePass

older_versions : constants.OLDER_VERSIONS ≡ 0x0200 ∷ 0x0002 ∷ 0x0007 ∷ 0x0300 ∷ 0x0400 ∷ 0x0500 ∷ []
older_versions = refl

-- BIFF8, BIFF5, BIFF2, BIFF3, BIFF4, a zero, a zero and 1000, another number, and none, after BIFF8 and BIFF5
versions : map (is_biff8_after true) ((0 ∷ 6 ∷ []) ∷ (0 ∷ 5 ∷ []) ∷ (0 ∷ 2 ∷ []) ∷ (2 ∷ 0 ∷ []) ∷ (7 ∷ 0 ∷ []) ∷ (0 ∷ 3 ∷ []) ∷ (0 ∷ 4 ∷ []) ∷ (0 ∷ 0 ∷ []) ∷ (0 ∷ 0 ∷ 0 ∷ 0x10 ∷ []) ∷ (0 ∷ 0 ∷ 1 ∷ 0x10 ∷ []) ∷ (0 ∷ 7 ∷ []) ∷ (5 ∷ []) ∷ [])
    ++ is_biff8_after false (5 ∷ []) ∷ is_biff8_after false (0 ∷ 6 ∷ []) ∷ []
    ≡ true ∷ false ∷ false ∷ false ∷ false ∷ false ∷ false ∷ true ∷ false ∷ true ∷ true ∷ true ∷ false ∷ true ∷ []
versions = refl

-- under BIFF8 by default, and under the last BOF; a cut one; none behind an EOF; the first of two
by_default : file_pass_of (0x2F ∷ 0 ∷ 2 ∷ 0 ∷ 1 ∷ 0 ∷ []) ≡ Some (record { offset = 0; end = 6; is_biff8 = true })
unfolding records_within
by_default = refl

by_the_last_bof : file_pass_of ((0x09 ∷ 0x08 ∷ 0x02 ∷ 0x00 ∷ 0x00 ∷ 0x06 ∷ []) ++ (0x09 ∷ 0x08 ∷ 0x02 ∷ 0x00 ∷ 0x00 ∷ 0x05 ∷ []) ++ 0x2F ∷ 0 ∷ 4 ∷ 0 ∷ 1 ∷ 2 ∷ []) ≡ Some (record { offset = 12; end = 18; is_biff8 = false })
unfolding records_within
by_the_last_bof = refl

behind_an_eof : file_pass_of (0x0A ∷ 0 ∷ 0 ∷ 0 ∷ 0x2F ∷ 0 ∷ 0 ∷ 0 ∷ []) ≡ None
unfolding records_within
behind_an_eof = refl

in_another_body : file_pass_of (0x3C ∷ 0 ∷ 4 ∷ 0 ∷ 0x2F ∷ 0 ∷ 0 ∷ 0 ∷ []) ≡ None
unfolding records_within
in_another_body = refl

the_first : file_pass_of (0x2F ∷ 0 ∷ 0 ∷ 0 ∷ 0x2F ∷ 0 ∷ 1 ∷ 0 ∷ 7 ∷ []) ≡ Some (record { offset = 0; end = 4; is_biff8 = true })
unfolding records_within
the_first = refl

a_cut_one : file_pass_of (0x2F ∷ 0 ∷ 9 ∷ 0 ∷ 0 ∷ []) ≡ Some (record { offset = 0; end = 5; is_biff8 = true })
unfolding records_within
a_cut_one = refl

no_whole_header : file_pass_of (0x2F ∷ 0 ∷ 0 ∷ []) ≡ None
unfolding records_within
no_whole_header = refl

-- ---- streams

-- a BOF of BIFF8 and a FilePass of XOR obfuscation under VelvetSweatshop
abbrev globals : List ℕ
globals = 0x09 ∷ 0x08 ∷ 0x04 ∷ 0x00 ∷ 0x00 ∷ 0x06 ∷ 0x05 ∷ 0x00 ∷ 0x2F ∷ 0x00 ∷ 0x06 ∷ 0x00 ∷ 0x00 ∷ 0x00 ∷ 0x59 ∷ 0xB3 ∷ 0x0A ∷ 0x9A ∷ []

abbrev encrypted : List ℕ
encrypted = 0x09 ∷ 0x08 ∷ 0x04 ∷ 0x00 ∷ 0x00 ∷ 0x06 ∷ 0x10 ∷ 0x00 ∷ 0x85 ∷ 0x00 ∷ 0x0A ∷ 0x00 ∷ 0x10 ∷ 0x11 ∷ 0x12 ∷ 0x13 ∷ 0x14 ∷ 0x15 ∷ 0x16 ∷ 0x17 ∷ 0x18 ∷ 0x19 ∷ 0xE1 ∷ 0x00 ∷ 0x02 ∷ 0x00 ∷ 0xB0 ∷ 0x04 ∷ 0x38 ∷ 0x01 ∷ 0x02 ∷ 0x00 ∷ 0x01 ∷ 0x02 ∷ 0x94 ∷ 0x01 ∷ 0x01 ∷ 0x00 ∷ 0x03 ∷ 0x95 ∷ 0x01 ∷ 0x02 ∷ 0x00 ∷ 0x04 ∷ 0x05 ∷ 0x96 ∷ 0x01 ∷ 0x01 ∷ 0x00 ∷ 0x06 ∷ 0x85 ∷ 0x00 ∷ 0x03 ∷ 0x00 ∷ 0x07 ∷ 0x08 ∷ 0x09 ∷ 0x2F ∷ 0x00 ∷ 0x03 ∷ 0x00 ∷ 0x01 ∷ 0x02 ∷ 0x03 ∷ 0x3C ∷ 0x00 ∷ 0x07 ∷ 0x00 ∷ 0x40 ∷ 0x41 ∷ 0x42 ∷ 0x43 ∷ 0x44 ∷ 0x45 ∷ 0x46 ∷ 0x0A ∷ 0x00 ∷ 0x00 ∷ 0x00 ∷ 0x03 ∷ 0x02 ∷ 0x0E ∷ 0x00 ∷ 0x09 ∷ 0x08 ∷ 0x07 ∷ 0x06 ∷ []

abbrev decrypted : List ℕ
decrypted = 0x09 ∷ 0x08 ∷ 0x04 ∷ 0x00 ∷ 0x00 ∷ 0x06 ∷ 0x05 ∷ 0x00 ∷ 0x00 ∷ 0x00 ∷ 0x06 ∷ 0x00 ∷ 0x00 ∷ 0x00 ∷ 0x00 ∷ 0x00 ∷ 0x00 ∷ 0x00 ∷ 0x09 ∷ 0x08 ∷ 0x04 ∷ 0x00 ∷ 0x00 ∷ 0x06 ∷ 0x10 ∷ 0x00 ∷ 0x85 ∷ 0x00 ∷ 0x0A ∷ 0x00 ∷ 0x10 ∷ 0x11 ∷ 0x12 ∷ 0x13 ∷ 0x64 ∷ 0xDB ∷ 0x14 ∷ 0x98 ∷ 0xFC ∷ 0x93 ∷ 0xE1 ∷ 0x00 ∷ 0x02 ∷ 0x00 ∷ 0xB0 ∷ 0x04 ∷ 0x38 ∷ 0x01 ∷ 0x02 ∷ 0x00 ∷ 0x01 ∷ 0x02 ∷ 0x94 ∷ 0x01 ∷ 0x01 ∷ 0x00 ∷ 0x03 ∷ 0x95 ∷ 0x01 ∷ 0x02 ∷ 0x00 ∷ 0x04 ∷ 0x05 ∷ 0x96 ∷ 0x01 ∷ 0x01 ∷ 0x00 ∷ 0x06 ∷ 0x85 ∷ 0x00 ∷ 0x03 ∷ 0x00 ∷ 0x07 ∷ 0x08 ∷ 0x09 ∷ 0x2F ∷ 0x00 ∷ 0x03 ∷ 0x00 ∷ 0x01 ∷ 0x02 ∷ 0x03 ∷ 0x3C ∷ 0x00 ∷ 0x07 ∷ 0x00 ∷ 0x71 ∷ 0xAE ∷ 0x32 ∷ 0x26 ∷ 0x79 ∷ 0xFE ∷ 0x25 ∷ 0x0A ∷ 0x00 ∷ 0x00 ∷ 0x00 ∷ 0x03 ∷ 0x02 ∷ 0x0E ∷ 0x00 ∷ 0x5F ∷ 0xB0 ∷ 0x27 ∷ 0x18 ∷ []

-- a record of each plain type, a BoundSheet8 whole and short, a second FilePass, a Continue, an EOF, and a cut record
by_xor : opened (globals ++ encrypted) [] ≡ Ok decrypted
unfolding records_within with_bits
by_xor = refl

without_one : opened (0x0A ∷ 0 ∷ 0 ∷ 0 ∷ []) [] ≡ Ok (0x0A ∷ 0 ∷ 0 ∷ 0 ∷ [])
unfolding records_within
without_one = refl

-- the default password fits after others; without it one is wanted, or none fits
beside : opened (globals ++ encrypted) (codes "other" ∷ []) ≡ Ok decrypted
unfolding records_within with_bits
beside = refl

abbrev locked : List ℕ
locked = 0x2F ∷ 0 ∷ 6 ∷ 0 ∷ 0 ∷ 0 ∷ 0x59 ∷ 0xB3 ∷ 0x0B ∷ 0x9A ∷ []

wanted : opened locked [] ≡ Err refusals.PasswordWanted
unfolding records_within with_bits
wanted = refl

unfit : opened locked (codes "other" ∷ []) ≡ Err refusals.NoneFits
unfolding records_within with_bits
unfit = refl

-- an empty password fits nothing, here with the key and the verifier that it would have
empty : opened (0x2F ∷ 0 ∷ 6 ∷ 0 ∷ 0 ∷ 0 ∷ 0xFF ∷ 0xFF ∷ 0x4B ∷ 0xCE ∷ []) ([] ∷ []) ≡ Err refusals.NoneFits
unfolding records_within with_bits
empty = refl

short : opened (0x2F ∷ 0 ∷ 1 ∷ 0 ∷ 0 ∷ []) [] ≡ Err (refusals.FilePass (faults.Length 2 1))
unfolding records_within
short = refl

-- the texts
texts : map refusal_text (refusals.FilePass faults.Unread ∷ refusals.PasswordWanted ∷ refusals.NoneFits ∷ [])
    ≡ codes "its encryption isn't read" ∷ codes "its password is wanted: --password-file FILE" ∷ codes "none of the passwords fits" ∷ []
texts = refl

-- by RC4 with keys from the bytes 1 to 5: a BoundSheet8, another record, and three bytes that are no record
by_rc4 : plain (keys.Blocks (block_keys.Rc4 (range_with_len 1 5))) (globals ++ (0x85 ∷ 0x00 ∷ 0x08 ∷ 0x00 ∷ 0x00 ∷ 0x01 ∷ 0x02 ∷ 0x03 ∷ 0x04 ∷ 0x05 ∷ 0x06 ∷ 0x07 ∷ 0xFD ∷ 0x00 ∷ 0x02 ∷ 0x00 ∷ 0x21 ∷ 0x22 ∷ 0x01 ∷ 0x02 ∷ 0x03 ∷ []))
    ≡ 0x09 ∷ 0x08 ∷ 0x04 ∷ 0x00 ∷ 0x00 ∷ 0x06 ∷ 0x05 ∷ 0x00 ∷ 0x00 ∷ 0x00 ∷ 0x06 ∷ 0x00 ∷ 0x00 ∷ 0x00 ∷ 0x00 ∷ 0x00 ∷ 0x00 ∷ 0x00 ∷ 0x85 ∷ 0x00 ∷ 0x08 ∷ 0x00 ∷ 0x00 ∷ 0x01 ∷ 0x02 ∷ 0x03 ∷ 0x10 ∷ 0x18 ∷ 0x42 ∷ 0xFB ∷ 0xFD ∷ 0x00 ∷ 0x02 ∷ 0x00 ∷ 0x19 ∷ 0xA0 ∷ 0x01 ∷ 0x02 ∷ 0x03 ∷ []
unfolding records_within md5 hash_after compress rounds block_words digest_bytes scheduled state_after key_byte
by_rc4 = refl

-- the last byte of block 0 and the first two of block 1
two_blocks : map (key_byte (block_keys.Rc4 (range_with_len 1 5))) (1023 ∷ 1024 ∷ 1025 ∷ []) ≡ 0x28 ∷ 0xCE ∷ 0xAE ∷ []
unfolding md5 hash_after compress rounds block_words digest_bytes scheduled state_after key_byte
two_blocks = refl
