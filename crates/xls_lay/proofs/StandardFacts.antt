-- Known values of this crate's definitions.
use Rattle.std.proofs.Common.{◌≡◌, ℕ, ◌+◌, List, [], ◌∷◌, refl, codes}
use Rattle.std.proofs.Math.ListN.{replicate}
use Rattle.xls_stream.specs.Listing.{ListEntry, plain_entry, table_entry, sheet_entry}
use Rattle.xls_lay.specs.Pushing.{last_count}
use Rattle.xls_lay.specs.Writing.{canonical_bytes, canonical_size, saturated}

-- nothing but the EOF of the globals
pub nothing : canonical_bytes [] ≡ 0x0A ∷ 0x00 ∷ 0x00 ∷ 0x00 ∷ []
nothing = refl

-- the strings of the last entry alone are counted
pub two_strings : last_count (sheet_entry 0 0 [] [] ∷ table_entry ([] ∷ codes "a" ∷ []) ∷ []) ≡ 2
two_strings = refl

pub no_strings : last_count (table_entry ([] ∷ []) ∷ plain_entry 0x0809 [] ∷ []) ≡ 0
no_strings = refl

pub small : saturated 51 ≡ 51
small = refl

pub large : saturated 18_446_744_073_709_551_616 ≡ 18_446_744_073_709_551_615
large = refl

-- ---- how large a record may be

-- a table of one string of so many letters, each of them a byte
abbrev letters : ℕ → List ListEntry
letters n = table_entry (replicate n 0x41 ∷ []) ∷ []

-- the data of a record has at most 0x2020 bytes ([MS-XLS] 2.1.4): two counts, a head and 0x2015 letters fit one SST
-- record, which stands before the EOF
pub fits_one_record : canonical_size (letters 0x2015) ≡ 0x2020 + 4 + 4
fits_one_record = refl

-- with one letter more they have 0x2021 bytes: it stands in a Continue record, after a flags byte
pub needs_another : canonical_size (letters 0x2016) ≡ 0x2020 + 4 + 2 + 4 + 4
needs_another = refl
