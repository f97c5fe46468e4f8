-- FilePass ([MS-XLS] 2.4.117), whose body says how a stream is encrypted ([MS-OFFCRYPTO] 2.3.5 to 2.3.7).
-- The body is read from left to right, up to the first fault.
use Rattle.std.specs.Prelude.{ℕ, ◌+◌, ◌%◌, List, ◌++◌, length, take, drop, nat_lt, if◌then◌else◌, Bool, false, not, ◌&&◌, ◌||◌, ◌==◌, Result, Ok, Err, codes}
use Rattle.std.specs.Fmt.{digits}
use Rattle.xls_bytes.specs.Numbers.{le}
use Rattle.xls_passwords.specs.declared.scheme.FilePassFault.{FilePassFault}
use Rattle.xls_passwords.specs.declared.scheme.FilePassFault.TheVariants as faults
use Rattle.xls_passwords.specs.declared.scheme.Scheme.{Scheme}
use Rattle.xls_passwords.specs.declared.scheme.Scheme.TheVariants as schemes

infixl 10 ◌>>=◌
infixl 10 ◌>>◌
-- what follows goes on with the value; a fault is the answer of all
abbrev pub ◌>>=◌ : {X Y : Type 0} → Result X FilePassFault → (X → Result Y FilePassFault) → Result Y FilePassFault
(Ok x) >>= f = f x
(Err e) >>= f = Err e

-- the same, where what follows needs no value
abbrev pub ◌>>◌ : {X Y : Type 0} → Result X FilePassFault → Result Y FilePassFault → Result Y FilePassFault
r >> s = r >>= λ x. s

-- so many bytes are there
abbrev pub at_least : ℕ → List ℕ → Result (Unit {0}) FilePassFault
at_least n body = if nat_lt (length body) n then Err (faults.Length n (length body)) else Ok tt

-- the body says what is read
abbrev pub says : Bool → Result (Unit {0}) FilePassFault
says read = if read then Ok tt else Err faults.Unread

-- so many bytes at a place
abbrev pub bytes_at : ℕ → ℕ → List ℕ → List ℕ
bytes_at n at body = take n (drop at body)

-- the numbers of 16 and of 32 bits at a place
abbrev pub u16_at : ℕ → List ℕ → ℕ
u16_at at body = le (bytes_at 2 at body)

abbrev pub u32_at : ℕ → List ℕ → ℕ
u32_at at body = le (bytes_at 4 at body)

-- XOR obfuscation (2.3.7): a key and a verifier, at a place
abbrev pub xor_at : ℕ → List ℕ → Result Scheme FilePassFault
xor_at at body = do
  at_least (at + 4) body
  Ok (schemes.Xor (u16_at at body) (u16_at (at + 2) body))

-- RC4 (2.3.6): a salt, an encrypted verifier and its encrypted hash, after version 1.1
unfoldable pub rc4_of : List ℕ → Result Scheme FilePassFault
rc4_of body = do
  at_least 54 body
  Ok (schemes.Rc4 (bytes_at 16 6 body) (bytes_at 16 22 body) (bytes_at 16 38 body))

-- what a size of 0 bits means
abbrev pub key_bits_of : ℕ → ℕ
key_bits_of n = if n == 0 then 40 else n

-- a size from 40 to 128 bits, in whole bytes
abbrev pub is_key_size : ℕ → Bool
is_key_size bits = not (nat_lt bits 40) && not (nat_lt 128 bits) && (bits % 8 == 0)

-- an EncryptionHeader (2.3.2) that says RC4 (6801) and SHA-1 (8004), or leaves them open, and a key size
abbrev pub is_header : ℕ → List ℕ → Bool
is_header at body =
    (u32_at (at + 8) body == 0x6801 || u32_at (at + 8) body == 0)
    && (u32_at (at + 12) body == 0x8004 || u32_at (at + 12) body == 0)
    && is_key_size (key_bits_of (u32_at (at + 16) body))

-- RC4 CryptoAPI (2.3.5.1): flags, the size of a header, the header, a salt of 16 bytes with its size before it, an
-- encrypted verifier, and its encrypted hash of 20 bytes with its size before it
unfoldable pub verifier_at : ℕ → List ℕ → Result Scheme FilePassFault
verifier_at header_size body = do
  at_least (74 + header_size) body
  says (u32_at (50 + header_size) body == 20)
  Ok (schemes.CryptoApi (key_bits_of (u32_at 30 body))
      (bytes_at 16 (18 + header_size) body)
      (bytes_at 16 (34 + header_size) body)
      (bytes_at 20 (54 + header_size) body))

unfoldable pub salt_at : ℕ → List ℕ → Result Scheme FilePassFault
salt_at header_size body = do
  says (u32_at (14 + header_size) body == 16)
  verifier_at header_size body

unfoldable pub header_at : ℕ → List ℕ → Result Scheme FilePassFault
header_at header_size body = do
  says (not (nat_lt header_size 32))
  at_least (18 + header_size) body
  says (is_header 14 body)
  salt_at header_size body

abbrev pub crypto_api_of : List ℕ → Result Scheme FilePassFault
crypto_api_of body = do
  at_least 14 body
  header_at (u32_at 10 body) body

-- the version of the encryption: 1.1 is RC4, and 2.2, 3.2 and 4.2 are RC4 CryptoAPI
abbrev pub versioned : ℕ → ℕ → List ℕ → Result Scheme FilePassFault
versioned major minor body =
    if major == 1 && minor == 1 then rc4_of body
    else if (major == 2 || major == 3 || major == 4) && minor == 2 then crypto_api_of body
    else Err faults.Unread

-- encryption of type 1 begins with its version
abbrev pub type_1 : List ℕ → Result Scheme FilePassFault
type_1 body = do
  at_least 6 body
  versioned (u16_at 2 body) (u16_at 4 body) body

-- BIFF8 begins with the type: 0 is XOR obfuscation
abbrev pub typed : ℕ → List ℕ → Result Scheme FilePassFault
typed n body =
    if n == 0 then xor_at 2 body
    else if n == 1 then type_1 body
    else Err faults.Unread

abbrev pub biff8_scheme : List ℕ → Result Scheme FilePassFault
biff8_scheme body = do
  at_least 2 body
  typed (u16_at 0 body) body

-- what a FilePass of BIFF8, or of a version before it, says
abbrev pub scheme_at : Bool → List ℕ → Result Scheme FilePassFault
scheme_at is_biff8 body = if is_biff8 then biff8_scheme body else xor_at 0 body

-- the texts of the faults
abbrev pub fault_text : FilePassFault → List ℕ
fault_text (faults.Length expected found) =
    codes "Invalid FilePass length, expected at least " ++ digits 10 false expected ++ codes ", found " ++ digits 10 false found
fault_text faults.Unread = codes "its encryption isn't read"
