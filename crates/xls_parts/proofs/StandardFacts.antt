-- Known values, in the bytes of records, so that a wrong rule in the definitions does not check.
use Rattle.std.proofs.Common.{◌≡◌, ℕ, List, [], ◌∷◌, ◌++◌, refl}
use Rattle.xls_stream.specs.Stream.{record_bytes}
use Rattle.xls_parts.specs.declared.types.TheConstants as types
use Rattle.xls_parts.specs.PartRecords.{globals_records, records_at, own_records, records_within, outer_from, own_from, until_eof}

-- the numbers of the record types
pub known_types : types.USER_S_VIEW_BEGIN ∷ types.USER_S_VIEW_END ∷ [] ≡ 0x1AA ∷ 0x1AB ∷ []
known_types = refl

-- a BOF, a Row of one byte, a nested substream with one, a view with one, an empty ColInfo, the EOF, and a Row behind it
abbrev part : List ℕ
part = record_bytes 0x809 [] ++ record_bytes 0x208 (1 ∷ []) ++ record_bytes 0x809 [] ++ record_bytes 0x208 (2 ∷ []) ++ record_bytes 0x00A []
    ++ record_bytes 0x1AA [] ++ record_bytes 0x208 (3 ∷ []) ++ record_bytes 0x1AB [] ++ record_bytes 0x07D [] ++ record_bytes 0x00A [] ++ record_bytes 0x208 (4 ∷ [])

pub known_own : own_records 100 part ≡ record { offset = 104; typ = 0x208; body = 1 ∷ [] } ∷ record { offset = 135; typ = 0x07D; body = [] } ∷ []
unfolding records_within outer_from own_from
known_own = refl

-- records up to one that is cut, and a Continue as a record of its own
pub known_cut : records_at 7 (record_bytes 0x208 (1 ∷ 2 ∷ []) ++ record_bytes 0x03C (3 ∷ []) ++ 0x08 ∷ 0x02 ∷ 0x02 ∷ 0x00 ∷ 0x05 ∷ [])
    ≡ record { offset = 7; typ = 0x208; body = 1 ∷ 2 ∷ [] } ∷ record { offset = 13; typ = 0x03C; body = 3 ∷ [] } ∷ []
unfolding records_within
known_cut = refl

-- without a BOF of its own a part ends at its first EOF
pub known_bare : own_records 0 (record_bytes 0x208 [] ++ record_bytes 0x00A [] ++ record_bytes 0x208 []) ≡ record { offset = 0; typ = 0x208; body = [] } ∷ []
unfolding records_within outer_from own_from
known_bare = refl

-- the globals end at the first EOF, also where a substream is begun before it
pub known_globals : globals_records (record_bytes 0x809 [] ++ record_bytes 0x018 (1 ∷ []) ++ record_bytes 0x809 [] ++ record_bytes 0x00A [] ++ record_bytes 0x018 (2 ∷ []))
    ≡ record { offset = 0; typ = 0x809; body = [] } ∷ record { offset = 4; typ = 0x018; body = 1 ∷ [] } ∷ record { offset = 9; typ = 0x809; body = [] } ∷ []
unfolding records_within until_eof
known_globals = refl
