-- A record's body with those of the Continue records (2.4.58) directly behind it ([MS-XLS] 2.1.4).
use Rattle.std.specs.Prelude.{ℕ, ◌-◌, List, [], ◌∷◌, ◌++◌, take, drop, length, slice_get, nat_lt, ◌==◌, if◌then◌else◌, Option, Some, None}
use Rattle.std.specs.List.{concat}
use Rattle.xls_bytes.specs.Numbers.{le}
use Rattle.xls_stream.specs.declared.types.TheConstants.{CONTINUE}
use Rattle.xls_parts.specs.PartRecords.{Placed, records_at}
use Rattle.xls_bodies.specs.declared.bytes.Bytes.{Bytes}
use Rattle.xls_bodies.specs.declared.bytes.Bytes.TheVariants.{Lent, Joined}

-- the bodies of the Continue records that some records begin with
unfoldable pub continued : List Placed → List (List ℕ)
continued [] = []
continued (r ∷ rs) = if r.typ == CONTINUE then r.body ∷ continued rs else []

-- some bytes and the pieces behind them, one behind the other
abbrev pub joined : List ℕ → List (List ℕ) → List ℕ
joined bytes pieces = bytes ++ concat pieces

-- the body of the first of some records, with the Continue records directly behind it
abbrev pub whole_of : List Placed → List ℕ
whole_of [] = []
whole_of (r ∷ rs) = joined r.body (continued rs)

-- that of the record that some bytes begin with
abbrev pub whole_at : List ℕ → List ℕ
whole_at bytes = whole_of (records_at 0 bytes)

-- that of the record whose header stands at a place of the stream, in a part that begins at an offset of it
abbrev pub body_of : ℕ → List ℕ → ℕ → List ℕ
body_of offset part place = whole_at (drop (place - offset) part)

-- ---- fields one behind the other

abbrev pub byte_in : List ℕ → Option ℕ
byte_in bytes = slice_get bytes 0

abbrev pub word_in : List ℕ → Option ℕ
word_in bytes = if nat_lt (length bytes) 2 then None else Some (le (take 2 bytes))

-- ---- as the code holds them

abbrev pub bytes_of : Bytes → List ℕ
bytes_of (Lent bytes) = bytes.now
bytes_of (Joined bytes) = bytes.items
