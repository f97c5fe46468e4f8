-- Libids ([MS-OVBA] LibidReference): parts between `#`, of which the last is the description and
-- the one before it the path. A text is the list of its bytes in UTF-8.
use Rattle.std.specs.Prelude.{ℕ, ◌-◌, min, List, [], ◌∷◌, length, drop, Option, Some, None, ◌==◌, ◌||◌, Bool, if◌then◌else◌, Result, Ok, Err}
use Rattle.std.specs.Option.{option_map}
use Rattle.std.specs.Str.{encode_utf8_all, bytes_eq}
use Rattle.std.specs.String.{string_bytes}
use Rattle.std.specs.declared.string.String.{String}
use Rattle.xls_text.specs.declared.encoding.XlsEncoding.{XlsEncoding}
use Rattle.xls_text.specs.Pages.{decoded}
use Rattle.xls_vba.specs.declared.error.VbaError.{VbaError}
use Rattle.xls_vba.specs.declared.error.VbaError.TheVariants as errors

-- `#`
abbrev pub HASH : ℕ
HASH = 35

-- the path and the description
abbrev pub Said : Type 0
Said = List ℕ × List ℕ

-- bytes in a page as a text
abbrev pub text_of : XlsEncoding → List ℕ → List ℕ
text_of page bytes = encode_utf8_all (decoded page bytes)

-- the parts of the rest with c before them, or those at c
abbrev pub parts_with : ℕ → List ℕ → Option (List ℕ × List ℕ) → Option (List ℕ × List ℕ)
parts_with c cs (Some parts) = Some (c ∷ parts.0, parts.1)
parts_with c cs None = if c == HASH then Some ([], cs) else None

-- what stands before the last # and after it
abbrev pub at_last_hash : List ℕ → Option (List ℕ × List ℕ)
at_last_hash [] = None
at_last_hash (c ∷ cs) = parts_with c cs (at_last_hash cs)

-- what stands after the #, or all
abbrev pub after_or : List ℕ → Option (List ℕ × List ℕ) → List ℕ
after_or text None = text
after_or text (Some parts) = parts.1

abbrev pub after_last_hash : List ℕ → List ℕ
after_last_hash text = after_or text (at_last_hash text)

-- an empty libid, and one that ends in ##, change nothing
abbrev pub says_nothing : List ℕ → Bool
says_nothing libid =
    (length libid == 0)
    || bytes_eq (drop (length libid - min (length libid) 2) libid) (HASH ∷ HASH ∷ [])

-- the description after the last #, and the path before it, back to the # before or the beginning
abbrev pub parted : Option (List ℕ × List ℕ) → Result (Option Said) VbaError
parted None = Err errors.LibId
parted (Some parts) = Ok (Some (after_last_hash parts.0, parts.1))

-- what the bytes of a libid say
abbrev pub libid_of : XlsEncoding → List ℕ → Result (Option Said) VbaError
libid_of page libid =
    if says_nothing libid then Ok None else parted (at_last_hash (text_of page libid))

-- a libid as the code has it
abbrev pub libid_view : {Y Z : Type 0} → Option (String Y × String Z) → Option Said
libid_view libid = option_map (λ x. (string_bytes x.0, string_bytes x.1)) libid
