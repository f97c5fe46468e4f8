-- Values from outside, so that a wrong rule in the definitions does not check.
use Rattle.std.proofs.Common.{◌≡◌, [], ◌∷◌, refl, Some, Ok, Err}
use Rattle.xls_stream.specs.StringTable.{marked, units_at, tail_at, next_at, no_units, no_tail}
use Rattle.xls_stream.specs.declared.part.Part.TheVariants as parts
use Rattle.xls_text.specs.declared.encoding.XlsEncoding.TheVariants.{Utf16}
use Rattle.xls_record.specs.declared.version.Biff.TheVariants.{Biff8}
use Rattle.xls_record.specs.declared.error.XlsError.TheVariants as errors
use Rattle.xls_strings.specs.Strings.{short_string_at, string_at}
use Rattle.xls_strings.specs.Uncounted.{uncounted_size}

-- U+1F600 cut between its units
pub known_pair : next_at (marked (2 ∷ 0 ∷ 1 ∷ 0x3D ∷ 0xD8 ∷ []) ((1 ∷ 0 ∷ 0xDE ∷ []) ∷ [])) ≡ Ok (0xD83D ∷ 0xDE00 ∷ [], [])
unfolding units_at tail_at
known_pair = refl

-- `AB`, whose second unit is wide behind the cut
pub known_width : next_at (marked (2 ∷ 0 ∷ 0 ∷ 0x41 ∷ []) ((1 ∷ 0x42 ∷ 0 ∷ []) ∷ [])) ≡ Ok (0x41 ∷ 0x42 ∷ [], [])
unfolding units_at tail_at
known_width = refl

-- a cut inside a unit
pub known_half : next_at (marked (2 ∷ 0 ∷ 1 ∷ 0x3D ∷ 0xD8 ∷ 0 ∷ []) ((1 ∷ 0 ∷ 0xDE ∷ []) ∷ [])) ≡ Err no_units
unfolding units_at tail_at
known_half = refl

-- a negative length of the extension
pub known_negative : next_at (marked (0 ∷ 0 ∷ 4 ∷ 0xFF ∷ 0xFF ∷ 0xFF ∷ 0xFF ∷ []) []) ≡ Err no_tail
unfolding units_at tail_at
known_negative = refl

-- a run cut inside its four bytes, and a string behind it
pub known_run : next_at (marked (1 ∷ 0 ∷ 8 ∷ 1 ∷ 0 ∷ 0x61 ∷ 9 ∷ []) ((9 ∷ 9 ∷ 9 ∷ 1 ∷ []) ∷ [])) ≡ Ok (0x61 ∷ [], Some 1 ∷ [])
unfolding units_at tail_at
known_run = refl

-- strings of BIFF8 whose counts pass the bytes
pub known_short : short_string_at Utf16 Biff8 (2 ∷ 0 ∷ 0x41 ∷ 0 ∷ []) ≡ Ok (0x41 ∷ 0 ∷ [])
known_short = refl

pub known_string : string_at Utf16 Biff8 (5 ∷ 0 ∷ 0 ∷ 0x41 ∷ 0x42 ∷ []) ≡ Ok (0x41 ∷ 0x42 ∷ [])
known_string = refl

pub known_zero : string_at Utf16 Biff8 (0 ∷ 1 ∷ []) ≡ Err (errors.Len 3 2 parts.Text)
known_zero = refl

-- a name without its count, and a wide unit that isn't there
pub known_uncounted : uncounted_size 5 (0 ∷ 0x54 ∷ 0x6F ∷ 0x74 ∷ 0x61 ∷ 0x6C ∷ 0x3A ∷ []) ≡ Ok 6
known_uncounted = refl

pub known_missing : uncounted_size 2 (1 ∷ 0x41 ∷ 0 ∷ 0x42 ∷ []) ≡ Err (errors.Len 5 4 parts.NoCch)
known_missing = refl
