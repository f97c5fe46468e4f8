-- A stream and some passwords: the plain stream, or why there is none.
use Rattle.std.specs.Prelude.{ℕ, ◌+◌, ◌-◌, List, [], ◌∷◌, ◌++◌, Option, Some, None, Result, Ok, Err, codes}
use Rattle.std.specs.Option.{option_or}
use Rattle.xls_passwords.specs.Schemes.{bytes_at, scheme_at, fault_text}
use Rattle.xls_passwords.specs.Passwords.{key_for}
use Rattle.xls_passwords.specs.Records.{file_pass_of}
use Rattle.xls_passwords.specs.Plain.{plain}
use Rattle.xls_passwords.specs.declared.scheme.FilePassFault.{FilePassFault}
use Rattle.xls_passwords.specs.declared.scheme.Scheme.{Scheme}
use Rattle.xls_passwords.specs.declared.passwords.Key.{Key}
use Rattle.xls_passwords.specs.declared.records.FilePass.{FilePass}
use Rattle.xls_passwords.specs.declared.opening.Refusal.{Refusal}
use Rattle.xls_passwords.specs.declared.opening.Refusal.TheVariants as refusals

-- the password that Excel tries without asking
abbrev pub default_password : List ℕ
default_password = codes "VelvetSweatshop"

-- the key of the first password that fits
abbrev pub first_key : Scheme → List (List ℕ) → Option Key
first_key scheme [] = None
first_key scheme (password ∷ others) = option_or (key_for scheme password) (first_key scheme others)

-- none fits: one is wanted where none was given
abbrev pub unfit : List (List ℕ) → Refusal
unfit [] = refusals.PasswordWanted
unfit (password ∷ others) = refusals.NoneFits

abbrev pub with_key : List ℕ → List (List ℕ) → Option Key → Result (List ℕ) Refusal
with_key stream passwords None = Err (unfit passwords)
with_key stream passwords (Some key) = Ok (plain key stream)

-- the default password is tried after those that are given
abbrev pub with_scheme : List ℕ → List (List ℕ) → Result Scheme FilePassFault → Result (List ℕ) Refusal
with_scheme stream passwords (Err fault) = Err (refusals.FilePass fault)
with_scheme stream passwords (Ok scheme) = with_key stream passwords (first_key scheme (passwords ++ default_password ∷ []))

abbrev pub file_pass_body : FilePass → List ℕ → List ℕ
file_pass_body place stream = bytes_at (place.end - (place.offset + 4)) (place.offset + 4) stream

-- without a FilePass a stream is plain
abbrev pub with_place : List ℕ → List (List ℕ) → Option FilePass → Result (List ℕ) Refusal
with_place stream passwords None = Ok stream
with_place stream passwords (Some place) =
    with_scheme stream passwords (scheme_at place.is_biff8 (file_pass_body place stream))

abbrev pub opened : List ℕ → List (List ℕ) → Result (List ℕ) Refusal
opened stream passwords = with_place stream passwords (file_pass_of stream)

-- the texts of the refusals
abbrev pub refusal_text : Refusal → List ℕ
refusal_text (refusals.FilePass fault) = fault_text fault
refusal_text refusals.PasswordWanted = codes "its password is wanted: --password-file FILE"
refusal_text refusals.NoneFits = codes "none of the passwords fits"
