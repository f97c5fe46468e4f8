-- Each form of a FilePass, and each refusal.
use Rattle.std.proofs.Common.{◌≡◌, ℕ, List, [], ◌∷◌, ◌++◌, map, take, replicate, Ok, Err, true, false, refl}
use Rattle.std.specs.Prelude.{codes}
use Rattle.std.specs.List.{range_with_len}
use Rattle.std.specs.Fmt.{digits}
use Rattle.std.specs.Int.{w16, w32, to_le_bytes}
use Rattle.xls_passwords.specs.Schemes.{scheme_at, fault_text, rc4_of, verifier_at, salt_at, header_at}
use Rattle.xls_passwords.specs.declared.scheme.FilePassFault.TheVariants as faults
use Rattle.xls_passwords.specs.declared.scheme.Scheme.TheVariants as schemes

-- before BIFF8
older : scheme_at false (0x98 ∷ 0xF9 ∷ 0x22 ∷ 0x8D ∷ []) ≡ Ok (schemes.Xor 0xF998 0x8D22)
older = refl

older_short : scheme_at false (0x98 ∷ 0xF9 ∷ 0x22 ∷ []) ≡ Err (faults.Length 4 3)
older_short = refl

-- BIFF8: XOR obfuscation
xor : scheme_at true (0 ∷ 0 ∷ 0x59 ∷ 0xB3 ∷ 0x0A ∷ 0x9A ∷ []) ≡ Ok (schemes.Xor 0xB359 0x9A0A)
xor = refl

none : scheme_at true [] ≡ Err (faults.Length 2 0)
none = refl

no_type : scheme_at true (0 ∷ []) ≡ Err (faults.Length 2 1)
no_type = refl

xor_short : scheme_at true (0 ∷ 0 ∷ 0x59 ∷ 0xB3 ∷ 0x0A ∷ []) ≡ Err (faults.Length 6 5)
xor_short = refl

another_type : scheme_at true (2 ∷ 0 ∷ []) ≡ Err faults.Unread
another_type = refl

high_type : scheme_at true (1 ∷ 1 ∷ []) ≡ Err faults.Unread
high_type = refl

-- an encryption of type 1, of a version, and what stands behind
abbrev version : ℕ → ℕ → List ℕ → List ℕ
version major minor more = 1 ∷ 0 ∷ to_le_bytes w16 major ++ to_le_bytes w16 minor ++ more

no_version : scheme_at true (1 ∷ 0 ∷ 1 ∷ 0 ∷ 1 ∷ []) ≡ Err (faults.Length 6 5)
no_version = refl

-- RC4
rc4 : scheme_at true (version 1 1 (range_with_len 1 48)) ≡ Ok (schemes.Rc4 (range_with_len 1 16) (range_with_len 17 16) (range_with_len 33 16))
unfolding rc4_of
rc4 = refl

rc4_short : scheme_at true (version 1 1 (range_with_len 1 47)) ≡ Err (faults.Length 54 53)
unfolding rc4_of
rc4_short = refl

-- other versions, of which the last is that of agile encryption
other_versions : map (λ v. scheme_at true (version v 1 [])) (0 ∷ 2 ∷ 3 ∷ 4 ∷ []) ++ map (λ v. scheme_at true (version v 2 [])) (0 ∷ 1 ∷ 5 ∷ []) ++ scheme_at true (version 4 4 []) ∷ []
    ≡ replicate 8 (Err faults.Unread)
other_versions = refl

-- RC4 CryptoAPI: its header, and all of it, with a header of h bytes
abbrev header : ℕ → ℕ → ℕ → List ℕ
header algorithm hash bits =
    to_le_bytes w32 4 ++ to_le_bytes w32 0 ++ to_le_bytes w32 algorithm ++ to_le_bytes w32 hash ++ to_le_bytes w32 bits ++ to_le_bytes w32 1 ++ replicate 8 0

abbrev crypto_api : ℕ → ℕ → List ℕ → ℕ → ℕ → List ℕ
crypto_api major h head salt_size hash_size =
    version major 2 (to_le_bytes w32 4 ++ to_le_bytes w32 h ++ head ++ to_le_bytes w32 salt_size ++ range_with_len 1 32 ++ to_le_bytes w32 hash_size ++ range_with_len 33 20)

three_versions : map (λ v. scheme_at true (crypto_api v 32 (header 0x6801 0x8004 128) 16 20)) (2 ∷ 3 ∷ 4 ∷ [])
    ≡ replicate 3 (Ok (schemes.CryptoApi 128 (range_with_len 1 16) (range_with_len 17 16) (range_with_len 33 20)))
unfolding header_at salt_at verifier_at
three_versions = refl

-- a longer header, and what is left open
long_header : scheme_at true (crypto_api 2 36 (header 0 0 0 ++ replicate 4 0) 16 20) ≡ Ok (schemes.CryptoApi 40 (range_with_len 1 16) (range_with_len 17 16) (range_with_len 33 20))
unfolding header_at salt_at verifier_at
long_header = refl

-- the sizes of keys that are read
sizes : map (λ bits. scheme_at true (crypto_api 2 32 (header 0x6801 0x8004 bits) 16 20)) (40 ∷ 48 ∷ 56 ∷ 64 ∷ 72 ∷ 80 ∷ 88 ∷ 96 ∷ 104 ∷ 112 ∷ 120 ∷ 128 ∷ [])
    ≡ map (λ bits. Ok (schemes.CryptoApi bits (range_with_len 1 16) (range_with_len 17 16) (range_with_len 33 20))) (40 ∷ 48 ∷ 56 ∷ 64 ∷ 72 ∷ 80 ∷ 88 ∷ 96 ∷ 104 ∷ 112 ∷ 120 ∷ 128 ∷ [])
unfolding header_at salt_at verifier_at
sizes = refl

other_sizes : map (λ bits. scheme_at true (crypto_api 2 32 (header 0x6801 0x8004 bits) 16 20)) (8 ∷ 32 ∷ 39 ∷ 41 ∷ 44 ∷ 127 ∷ 129 ∷ 136 ∷ 256 ∷ []) ≡ replicate 9 (Err faults.Unread)
unfolding header_at salt_at verifier_at
other_sizes = refl

-- AES, other hashes, a salt and a hash of another size
other_forms : scheme_at true (crypto_api 2 32 (header 0x660E 0x8004 128) 16 20) ∷ scheme_at true (crypto_api 2 32 (header 0x6801 0x8003 128) 16 20)
    ∷ scheme_at true (crypto_api 2 32 (header 0x6801 0x8004 128) 15 20) ∷ scheme_at true (crypto_api 2 32 (header 0x6801 0x8004 128) 16 32)
    ∷ scheme_at true (crypto_api 2 31 (header 0x6801 0x8004 128) 16 20) ∷ []
    ≡ replicate 5 (Err faults.Unread)
unfolding header_at salt_at verifier_at
other_forms = refl

-- the lengths, from left to right: each comes before the faults behind it
lengths : scheme_at true (take 13 (crypto_api 2 32 (header 0 0 0) 16 20)) ∷ scheme_at true (take 49 (crypto_api 2 32 (header 0x660E 0 0) 15 20))
    ∷ scheme_at true (take 105 (crypto_api 2 32 (header 0 0 0) 16 32)) ∷ scheme_at true (take 14 (crypto_api 2 31 [] 0 0)) ∷ []
    ≡ Err (faults.Length 14 13) ∷ Err (faults.Length 50 49) ∷ Err (faults.Length 106 105) ∷ Err faults.Unread ∷ []
unfolding header_at salt_at verifier_at
lengths = refl

-- the texts
length_text : fault_text (faults.Length 54 9) ≡ codes "Invalid FilePass length, expected at least 54, found 9"
unfolding digits
length_text = refl

unread_text : fault_text faults.Unread ≡ codes "its encryption isn't read"
unread_text = refl
