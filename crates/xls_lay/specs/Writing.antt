-- What is written of a logical list: the bytes of its canonical layout.
use Rattle.std.specs.Prelude.{◌≡◌, ℕ, ◌≤◌, ◌<◌, ◌^◌, ◌-◌, List, length, min, Result, Ok, Err}
use Rattle.xls_stream.specs.Listing.{ListEntry}
use Rattle.xls_layouts.specs.Layout.{lay}
use Rattle.xls_layouts.specs.Canonical.{canonical}
use Rattle.xls_lay.specs.declared.error.LayError.{LayError}
use Rattle.xls_lay.specs.declared.error.LayError.TheVariants as errors

-- the canonical bytes of a list
abbrev pub canonical_bytes : List ListEntry → List ℕ
canonical_bytes list = lay (canonical list)

-- a number in 64 bits, the last of them where it is larger
abbrev pub saturated : ℕ → ℕ
saturated n = min n (2 ^ 64 - 1)

-- how many they are
abbrev pub canonical_size : List ListEntry → ℕ
canonical_size list = saturated (length (canonical_bytes list))

-- the canonical bytes, which have offsets of 32 bits; or how many they are where they have not; or
-- memory ran out, where they have
abbrev pub WritesList : List ListEntry → Result (List ℕ) LayError → Type 0
WritesList list (Ok bytes) = (bytes ≡ canonical_bytes list) × (length bytes < 2 ^ 32)
WritesList list (Err (errors.TooLong found)) =
    (2 ^ 32 ≤ length (canonical_bytes list)) × (found ≡ canonical_size list)
WritesList list (Err errors.Memory) = length (canonical_bytes list) < 2 ^ 32
