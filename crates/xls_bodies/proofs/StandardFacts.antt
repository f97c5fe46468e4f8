-- Known values, in the bytes of records, so that a wrong rule in the definitions does not check.
use Rattle.std.proofs.Common.{◌≡◌, ℕ, List, [], ◌∷◌, ◌++◌, map, refl, Some, None}
use Rattle.xls_stream.specs.Stream.{record_bytes}
use Rattle.xls_parts.specs.PartRecords.{records_within}
use Rattle.xls_bodies.specs.Bodies.{continued, whole_at, body_of, byte_in, word_in}

-- a record of two bytes, two Continue records, one without bytes, and a third; a record behind them, with one of its own
abbrev part : List ℕ
part = record_bytes 0x221 (1 ∷ 2 ∷ []) ++ record_bytes 0x03C (3 ∷ []) ++ record_bytes 0x03C [] ++ record_bytes 0x03C (4 ∷ 5 ∷ [])
    ++ record_bytes 0x4BC (6 ∷ []) ++ record_bytes 0x03C (7 ∷ []) ++ record_bytes 0x00A []

pub known_whole : whole_at part ≡ 1 ∷ 2 ∷ 3 ∷ 4 ∷ 5 ∷ []
unfolding records_within continued
known_whole = refl

-- by the place in the stream: the part begins at 100
pub known_bodies : map (body_of 100 part) (100 ∷ 106 ∷ 121 ∷ 131 ∷ 135 ∷ 200 ∷ [])
    ≡ (1 ∷ 2 ∷ 3 ∷ 4 ∷ 5 ∷ []) ∷ (3 ∷ 4 ∷ 5 ∷ []) ∷ (6 ∷ 7 ∷ []) ∷ [] ∷ [] ∷ [] ∷ []
unfolding records_within continued
known_bodies = refl

-- a record that isn't there whole has no body, and a Continue that isn't ends one
pub known_cut : whole_at (0x21 ∷ 0x02 ∷ 2 ∷ 0 ∷ 9 ∷ []) ≡ []
unfolding records_within continued
known_cut = refl

pub known_cut_continue : whole_at (record_bytes 0x221 (1 ∷ []) ++ 0x3C ∷ 0x00 ∷ 2 ∷ 0 ∷ 9 ∷ []) ≡ 1 ∷ []
unfolding records_within continued
known_cut_continue = refl

-- fields: the lowest byte comes first
pub known_fields : map word_in ((1 ∷ 2 ∷ 3 ∷ []) ∷ (1 ∷ []) ∷ [] ∷ []) ≡ Some 0x0201 ∷ None ∷ None ∷ []
known_fields = refl

pub known_bytes : map byte_in ((1 ∷ 2 ∷ []) ∷ [] ∷ []) ≡ Some 1 ∷ None ∷ []
known_bytes = refl
